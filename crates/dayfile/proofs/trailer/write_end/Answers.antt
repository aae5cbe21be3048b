-- `write_end` meets its contract: the trailer stands behind as many bytes as the form has for the vessel number.
use Rattle.std.proofs.Common.{◌+◌, ◌≤◌, ◌≡◌, sym, ap, ap₂, ◌∙◌, ◌++◌, arith, length, take, length-take, rules}
use lib.Seq.{sets}
use Rattle.dayfile.specs.Numbers.{bytes_of}
use Rattle.dayfile.specs.Trailer.{trailer_size, trailer_bytes}
use Rattle.dayfile.specs.declared.forms.Form.{Form}
use Rattle.dayfile.proofs.Laws.Numbers.{length_bytes}
use Rattle.dayfile.proofs.Laws.Stores.{stored_in_front, stored_in_last_part}
use Rattle.dayfile.proofs.trailer.write_end.Goals.{After-form_of-form}
use Rattle.dayfile.proofs.trailer.write_end.Goals as goal

-- there is room for both
room : (c : After-form_of-form) → (let a = c.args in c.form_of-form.result.vessel + trailer_size ≤ length a.buf.now)
room c = omega (arith, c.requires.0, ap (λ (f : Form). f.vessel) c.form_of-form.ensures)

pub slice_bounds-write_trailer-count : goal.slice_bounds-write_trailer-count
slice_bounds-write_trailer-count c = let h = room (goal.at.slice_bounds-write_trailer-count c).After-form_of-form in search rules

pub slice_bounds-write_trailer-start : goal.slice_bounds-write_trailer-start
slice_bounds-write_trailer-start c = let h = room (goal.at.slice_bounds-write_trailer-start c).After-form_of-form in search rules

pub write_trailer-requires : goal.write_trailer-requires
write_trailer-requires c =
    let h = room (goal.at.write_trailer-requires c).After-form_of-form in (search rules, c.requires.1, c.form_of-form.ensures)

pub returns : goal.returns
returns c =
    let a = c.args in
    let width = c.form_of-form.result.vessel in
    let vessel = bytes_of width a.vessel in
    let fits = room (goal.at.returns c).After-form_of-form in
    let wide : c.from-width.result ≡ width = c.from-width.ensures in
    let part : length (take c.from-width.result a.buf.now) ≡ width = simp length-take (omega (arith, wide, fits)) in
    let first =
    stored_in_front a.buf.now _ vessel c.from-width.result (c.put_number.ensures ∙ ap₂ bytes_of part c.from.ensures) (wide ∙ sym (length_bytes width a.vessel)) (omega (arith, length_bytes width a.vessel, fits)) in
    stored_in_last_part a.buf.now _ _ vessel _ 0 c.from-width.result (omega (arith, wide, length_bytes width a.vessel)) (omega (arith, wide, fits))
    first
    c.write_trailer.ensures
    ∙ ap (λ (g : Form). sets a.buf.now 0 (bytes_of g.vessel a.vessel ++ trailer_bytes a.t)) c.form_of-form.ensures

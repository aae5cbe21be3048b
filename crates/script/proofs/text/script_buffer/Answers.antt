-- `text::script_buffer` meets its contract, by the length of a repeat: a million elements are not to be counted out.
use Rattle.std.proofs.Common.{ℕ, refl, sym}
use lib.ListN.{length-replicate}
use Rattle.script.specs.Text.{room_for_script}
use Rattle.script.proofs.text.script_buffer.Goals as goal

pub returns : goal.returns
unfolding room_for_script
returns c = (refl, sym (length-replicate {0} {A = ℕ} 1048577 0))

-- No rule looks at m (T-01 of document 02): spaces as their records give them back are found, enclosed, summed and judged as they were,
-- so a valid sheet, written and read, is valid. Stands on Each.
use Rattle.std.proofs.Common.{ℕ, ◌≡◌, refl, sym, ap, ◌∙◌, subst, Bool, ◌&&◌, ◌||◌, List, [], ◌∷◌, ◌++◌, Option, None, Some, option_map, is_some, eqb, length}
use lib.ListN.{length-map}
use Rattle.measure.specs.Refusals.{first_of}
use Rattle.measure.specs.declared.units.Hundredths.{Hundredths}
use Rattle.spaces.specs.declared.space.Space.{Space}
use Rattle.spaces.specs.declared.sums.Amount.{Amount}
use Rattle.spaces.specs.declared.sums.Amount.TheVariants.{Inside, Rooms, Lengths, Hull, Hatchways, Exempt, Ballast, Deducted, Machinery}
use Rattle.spaces.specs.Space.{is_plain, recorded, all_recorded}
use Rattle.spaces.specs.Row.{find, stands, amount_of, sum_of}
use Rattle.spaces.specs.Enclosure.{enclosing, above, all_plain, among, below_of, below}
use Rattle.standard.specs.Rules.{in_hatchway, passes_enclosing, entry_tests, entry_number, withdraw_number, cannot_take, plain_above, mark_number}
use Rattle.standard.specs.Records.{misrecorded, record_number, first_refused}
use Rattle.standard.specs.Gross.{gross, deductions, net, deductions_pass, needs_mark, reckoned}
use Rattle.standard.specs.Valid.{ValidFrom, done, next, Valid}
use Rattle.spaces.proofs.Laws.Cases.{by_test}
use Rattle.spaces_laws.proofs.Each.{sum_each, Keeps, find_each, enclosing_each, upward_each}

-- ---- the order

-- a record keeps all that the walks go by
keeps : Keeps recorded
keeps = record { id = λ y. refl; within = λ y. refl; kind = λ y. refl }

pub length_recorded : (xs : List Space) → length (all_recorded xs) ≡ length xs
length_recorded xs = length-map xs recorded

pub recorded_append : (xs ys : List Space) → all_recorded (xs ++ ys) ≡ all_recorded xs ++ all_recorded ys
recorded_append [] ys = refl
recorded_append (x ∷ xs) ys = ap (λ (l : List Space). recorded x ∷ l) (recorded_append xs ys)

pub recorded_twice : (xs : List Space) → all_recorded (all_recorded xs) ≡ all_recorded xs
recorded_twice [] = refl
recorded_twice (x ∷ xs) = ap (λ (l : List Space). recorded x ∷ l) (recorded_twice xs)

-- ---- found, enclosed, summed

pub find_recorded : (id : ℕ) (xs : List Space) → find id (all_recorded xs) ≡ option_map recorded (find id xs)
find_recorded id xs = find_each recorded keeps id xs

some_recorded : (o : Option Space) → is_some (option_map recorded o) ≡ is_some o
some_recorded None = refl
some_recorded (Some z) = refl

pub stands_recorded : (id : ℕ) (xs : List Space) → stands id (all_recorded xs) ≡ stands id xs
stands_recorded id xs = ap is_some (find_recorded id xs) ∙ some_recorded (find id xs)

pub enclosing_recorded : (xs : List Space) (x : Space) → enclosing (all_recorded xs) (recorded x) ≡ option_map recorded (enclosing xs x)
enclosing_recorded xs x = enclosing_each recorded keeps xs x

pub above_recorded : (xs : List Space) (x : Space) → above (all_recorded xs) (recorded x) ≡ all_recorded (above xs x)
unfolding above
above_recorded xs x = upward_each recorded keeps 8 xs x

pub all_plain_recorded : (zs : List Space) → all_plain (all_recorded zs) ≡ all_plain zs
all_plain_recorded [] = refl
all_plain_recorded (z ∷ zs) = ap (λ (rest : Bool). is_plain z && rest) (all_plain_recorded zs)

-- no sum that the paper takes looks at m
blind : (a : Amount) (y : Space) → amount_of a (recorded y) ≡ amount_of a y
blind (Inside w) y = refl
blind (Rooms w) y = refl
blind Lengths y = refl
blind Hull y = refl
blind Hatchways y = refl
blind Exempt y = refl
blind Ballast y = refl
blind Deducted y = refl
blind Machinery y = refl

pub sum_recorded : (a : Amount) (xs : List Space) → sum_of a (all_recorded xs) ≡ sum_of a xs
sum_recorded a xs = sum_each (amount_of a) recorded (blind a) xs

-- ---- judged

hatchway_recorded : (o : Option Space) → in_hatchway (option_map recorded o) ≡ in_hatchway o
hatchway_recorded None = refl
hatchway_recorded (Some z) = refl

passes_recorded : (xs : List Space) (x : Space) (o : Option Space)
    → passes_enclosing (all_recorded xs) (recorded x) (option_map recorded o) ≡ passes_enclosing xs x o
passes_recorded xs x None = refl
passes_recorded xs x (Some z) = rw (sum_recorded (Inside x.within) xs)

pub entry_tests_recorded : (L : Hundredths) (xs : List Space) (x : Space) → entry_tests L (all_recorded xs) (recorded x) ≡ entry_tests L xs x
entry_tests_recorded L xs x =
    rw (
      stands_recorded x.id xs,
      stands_recorded x.within xs,
      enclosing_recorded xs x,
      hatchway_recorded (enclosing xs x),
      passes_recorded xs x (enclosing xs x),
      above_recorded xs x,
      length_recorded (above xs x),
      all_plain_recorded (above xs x),
      sum_recorded Lengths xs,
      length_recorded xs,
    )

pub entry_number_recorded : (L : Hundredths) (xs : List Space) (x : Space) → entry_number L (all_recorded xs) (recorded x) ≡ entry_number L xs x
unfolding entry_number
entry_number_recorded L xs x = ap first_of (entry_tests_recorded L xs x)

-- a withdrawal and a mark, which look at what is inside and below
among_recorded : (id : ℕ) (zs : List Space) → among id (all_recorded zs) ≡ among id zs
among_recorded id [] = refl
among_recorded id (z ∷ zs) = ap (λ (rest : Bool). eqb z.id id || rest) (among_recorded id zs)

below_of_recorded : (id : ℕ) (xs ys : List Space) → below_of id (all_recorded xs) (all_recorded ys) ≡ all_recorded (below_of id xs ys)
below_of_recorded id xs [] = refl
below_of_recorded id xs (y ∷ ys) =
    let same = ap (among id) (above_recorded xs y) ∙ among_recorded id (above xs y) in
    by_test (among id (above xs y))
    (λ e. rw (same ∙ e, e) (ap (λ (l : List Space). recorded y ∷ l) (below_of_recorded id xs ys)))
    (λ e. rw (same ∙ e, e) (below_of_recorded id xs ys))

pub withdraw_number_recorded : (xs : List Space) (id : ℕ) → withdraw_number (all_recorded xs) id ≡ withdraw_number xs id
unfolding withdraw_number
withdraw_number_recorded xs id = rw (stands_recorded id xs, sum_recorded (Rooms id) xs)

cannot_take_recorded : (o : Option Space) (standing : ℕ) → cannot_take (option_map recorded o) standing ≡ cannot_take o standing
cannot_take_recorded None standing = refl
cannot_take_recorded (Some z) standing = refl

plain_above_recorded : (xs : List Space) (o : Option Space) → plain_above (all_recorded xs) (option_map recorded o) ≡ plain_above xs o
plain_above_recorded xs None = refl
plain_above_recorded xs (Some z) = ap all_plain (above_recorded xs z) ∙ all_plain_recorded (above xs z)

pub mark_number_recorded : (xs : List Space) (id standing : ℕ) → mark_number (all_recorded xs) id standing ≡ mark_number xs id standing
unfolding mark_number
mark_number_recorded xs id standing =
    let it = find id xs in
    rw (
      find_recorded id xs,
      some_recorded it,
      cannot_take_recorded it standing,
      plain_above_recorded xs it,
      below_of_recorded id xs xs,
      all_plain_recorded (below id xs),
    )

-- records in file order
pub record_number_recorded : (L : Hundredths) (xs : List Space) (x : Space) → record_number L (all_recorded xs) (recorded x) ≡ record_number L xs x
unfolding record_number
record_number_recorded L xs x = ap (λ (tests : List (Bool × ℕ)). first_of ((misrecorded x, 2) ∷ tests)) (entry_tests_recorded L xs x)

pub first_refused_recorded : (L : Hundredths) (pre xs : List Space) → first_refused L (all_recorded pre) (all_recorded xs) ≡ first_refused L pre xs
first_refused_recorded L pre [] = refl
first_refused_recorded L pre (x ∷ xs) =
    let later = ap (λ (l : List Space). first_refused L l (all_recorded xs)) (sym (recorded_append pre (x ∷ []))) ∙ first_refused_recorded L (pre ++ (x ∷ [])) xs in
    rw (record_number_recorded L pre x, later, length_recorded pre)

valid_from_recorded : {L : Hundredths} {pre xs : List Space} → ValidFrom L pre xs → ValidFrom L (all_recorded pre) (all_recorded xs)
valid_from_recorded done = done
valid_from_recorded {L} {pre} (next {x = x} {xs = xs} e v) =
    next (entry_number_recorded L pre x ∙ e)
    (subst (λ (l : List Space). ValidFrom L l (all_recorded xs)) (recorded_append pre (x ∷ [])) (valid_from_recorded v))

pub valid_recorded : {L : Hundredths} {xs : List Space} → Valid L xs → Valid L (all_recorded xs)
valid_recorded v = valid_from_recorded v

-- ---- reported: the lengths, gross, net, the mark that the water ballast needs, and whether deductions pass gross
pub reckoned_recorded : (xs : List Space) → reckoned (all_recorded xs) ≡ reckoned xs
unfolding gross deductions net deductions_pass needs_mark
reckoned_recorded xs =
    rw (
      sum_recorded Lengths xs,
      sum_recorded Hull xs,
      sum_recorded Hatchways xs,
      sum_recorded Exempt xs,
      sum_recorded Ballast xs,
      sum_recorded Deducted xs,
      sum_recorded Machinery xs,
    )

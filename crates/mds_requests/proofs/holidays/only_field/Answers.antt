use Rattle.std.proofs.Common.{◌≡◌, ℕ, List, [], ◌∷◌, length, refl, arith, ◌∙◌}
use Rattle.csv.specs.Records.{field_at, fields_of}
use Rattle.mds_requests.specs.Holidays.{only_field}
use Rattle.mds_requests.proofs.holidays.only_field.Goals as goal

-- of one field the first is the only one
first_of_one : (fields : List (List ℕ)) → length fields ≡ 1 → field_at fields 0 ≡ only_field fields
unfolding field_at
first_of_one [] e = absurd (omega arith)
first_of_one (field ∷ []) e = refl
first_of_one (field ∷ next ∷ rest) e = absurd (omega arith)

pub returns-then-len-eq1 : goal.returns-then-len-eq1
returns-then-len-eq1 c = c.get.ensures.value ∙ first_of_one (fields_of c.args.row.now) (omega arith)

use Rattle.std.proofs.Common.{◌≡◌, ℕ, ◌+◌, ◌*◌, ◌%◌, ◌<◌, ◌∙◌, ap, arith, get_or, refl}
use Rattle.std.proofs.lemmas.List.{get_or-take}
use Rattle.mds_quantity.proofs.Short.{IsShort, is_short, short_field}
use Rattle.mds_quantity.proofs.quantity.short_number.Goals as goal

-- the bytes that passed both tests
short : (c : goal.Else-lanes-ne0-2) → IsShort ((c.from_le_bytes-lanes.result + 18446695488231035344) % 18446744073709551616) (get_or c.args.text.now 0 0) (get_or c.args.text.now 1 0) (get_or c.args.text.now 2 0) (get_or c.args.text.now 3 0) (get_or c.args.text.now 4 0) (get_or c.args.text.now 5 0)
short c =
    let text = c.args.text.now in
    let byte : (i : ℕ) → get_or text i 0 < 256 = λ i. omega (arith, c.type_inv.text i) in
    let front : (i : ℕ) → i < 8 → get_or c.in-Some.head.now i 0 ≡ get_or text i 0 = λ i h. ap (λ x. get_or x i 0) c.in-Some.ensures.cases.same ∙ get_or-take 8 text i 0 h in
    let word : c.from_le_bytes-lanes.result ≡ get_or text 0 0 + 256 * (get_or text 1 0 + 256 * (get_or text 2 0 + 256 * (get_or text 3 0 + 256 * (get_or text 4 0 + 256 * (get_or text 5 0 + 256 * (get_or text 6 0 + 256 * get_or text 7 0)))))) =
    omega (arith, c.from_le_bytes-lanes.ensures, front 0 (omega arith), front 1 (omega arith), front 2 (omega arith), front 3 (omega arith), front 4 (omega arith), front 5 (omega arith), front 6 (omega arith), front 7 (omega arith)) in
    is_short c.from_le_bytes-lanes.result _ _ _ _ _ _ _ (get_or text 6 0) (get_or text 7 0) (byte 0) (byte 1) (byte 2) (byte 3) (byte 4) (byte 5) (byte 6) (byte 7) word refl c.if-lanes-ne0.false c.if-lanes-ne0-2.false

pub returns-clause-length : goal.returns-clause-length
returns-clause-length c = (short_field c.args.text.now _ c.in-Some.ensures.cases.enough (short c)).0

pub returns-clause-value : goal.returns-clause-value
returns-clause-value c = (short_field c.args.text.now _ c.in-Some.ensures.cases.enough (short c)).1

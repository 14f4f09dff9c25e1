use Rattle.std.proofs.Common.{◌≡◌, ◌≢◌, ℕ, true, false, ◌&&◌, eqb, nat_lt, not, cond, List, Option, None, Some, length, ap, sym, refl, arith, ◌∙◌}
use Rattle.std.specs.Int.{w16}
use Rattle.std.proofs.lemmas.Bool.{eq-eqb, lt-ltb, ne_eqb}
use Rattle.mds_packs.specs.Sizes.{sizes_at, values_size}
use Rattle.mds_packs.specs.Unpacked.{◌>>=◌, byte_at, number_at}
use Rattle.mds_packs.proofs.Fields.{step}
use Rattle.mds_packs.proofs.Loops.{none_from}
use Rattle.mds_packs.proofs.sizes.values_size.Goals as goal

-- what is left to read after each number
abbrev after_sizes : ℕ × List ℕ → Option ℕ
after_sizes sizes = cond (eqb (length sizes.1) sizes.0) (Some sizes.0) None

abbrev after_number : ℕ → ℕ → ℕ → ℕ × List ℕ → Option ℕ
after_number count version places number =
    cond (not (eqb version 1 && eqb places count && nat_lt 0 number.0)) None (sizes_at number.0 number.1 >>= after_sizes)

abbrev after_places : ℕ → ℕ → ℕ × List ℕ → Option ℕ
after_places count version places = number_at w16 places.1 >>= after_number count version places.0

abbrev after_version : ℕ → ℕ × List ℕ → Option ℕ
after_version count version = number_at w16 version.1 >>= after_places count version.0

begun : (count : ℕ) (bytes : List ℕ) → (byte_at bytes >>= after_version count) ≡ values_size count bytes
unfolding values_size
begun count bytes = refl

-- where a step gives nothing, there is no size
ends : {A : Type 0} (read : Option A) (f : A → Option ℕ) (size found : Option ℕ) → found ≡ None → None ≡ read → (read >>= f) ≡ size → found ≡ size
ends read f size found none absent so_far = none ∙ sym (none_from read f (sym absent)) ∙ so_far

-- and where it gives a value, reading goes on with it
goes_on : {A : Type 0} (read : Option A) (f : A → Option ℕ) (size : Option ℕ) (x : A) → Some x ≡ read → (read >>= f) ≡ size → f x ≡ size
goes_on read f size x is so_far = sym (step read f x (sym is)) ∙ so_far

passed : (version places count number : ℕ) → version ≡ 1 → places ≡ count → number ≢ 0 → not (eqb version 1 && eqb places count && nat_lt 0 number) ≡ false
passed version places count number one same some =
    let a : eqb version 1 ≡ true = eq-eqb version 1 one in
    let b : eqb places count ≡ true = eq-eqb places count same in
    let d : nat_lt 0 number ≡ true = lt-ltb 0 number (omega arith) in
    rw (a, b, d) refl

pub returns-in_err-version : goal.returns-in_err-version
returns-in_err-version c =
    let size = values_size c.args.count c.args.body.now in
    let at0 = begun c.args.count c.args.body.now in
    ends (byte_at c.args.body.now) (after_version c.args.count) size c.from_residual.result c.from_residual.ensures c.in_err-version.ensures at0

pub returns-in_err-places : goal.returns-in_err-places
returns-in_err-places c =
    let size = values_size c.args.count c.args.body.now in
    let at0 = begun c.args.count c.args.body.now in
    let at1 = goes_on (byte_at c.args.body.now) (after_version c.args.count) size (c.in_ok-version.version, c.in_ok-version.rest.now) c.in_ok-version.ensures at0 in
    ends (number_at w16 c.in_ok-version.rest.now) (after_places c.args.count c.in_ok-version.version) size c.from_residual-in_err-places.result c.from_residual-in_err-places.ensures c.in_err-places.ensures at1

pub returns-in_err-number : goal.returns-in_err-number
returns-in_err-number c =
    let size = values_size c.args.count c.args.body.now in
    let at0 = begun c.args.count c.args.body.now in
    let at1 = goes_on (byte_at c.args.body.now) (after_version c.args.count) size (c.in_ok-version.version, c.in_ok-version.rest.now) c.in_ok-version.ensures at0 in
    let at2 = goes_on (number_at w16 c.in_ok-version.rest.now) (after_places c.args.count c.in_ok-version.version) size (c.in_ok-places.places, c.in_ok-places.rest.now) c.in_ok-places.ensures at1 in
    ends (number_at w16 c.in_ok-places.rest.now) (after_number c.args.count c.in_ok-version.version c.in_ok-places.places) size c.from_residual-in_err-number.result c.from_residual-in_err-number.ensures c.in_err-number.ensures at2

pub returns-in_err-size : goal.returns-in_err-size
returns-in_err-size c =
    let size = values_size c.args.count c.args.body.now in
    let at0 = begun c.args.count c.args.body.now in
    let at1 = goes_on (byte_at c.args.body.now) (after_version c.args.count) size (c.in_ok-version.version, c.in_ok-version.rest.now) c.in_ok-version.ensures at0 in
    let at2 = goes_on (number_at w16 c.in_ok-version.rest.now) (after_places c.args.count c.in_ok-version.version) size (c.in_ok-places.places, c.in_ok-places.rest.now) c.in_ok-places.ensures at1 in
    let at3 = goes_on (number_at w16 c.in_ok-places.rest.now) (after_number c.args.count c.in_ok-version.version c.in_ok-places.places) size (c.in_ok-number.number, c.in_ok-number.rest.now) c.in_ok-number.ensures at2 in
    let test = passed c.in_ok-version.version c.in_ok-places.places c.args.count c.in_ok-number.number c.if-version-ne-VERSION.false c.if-places-count.false c.if-number-eq0.false in
    let at4 = sym (ap (λ b. cond b None (sizes_at c.in_ok-number.number c.in_ok-number.rest.now >>= after_sizes)) test) ∙ at3 in
    ends (sizes_at c.in_ok-number.number c.in_ok-number.rest.now) after_sizes size c.from_residual-in_err-size.result c.from_residual-in_err-size.ensures c.in_err-size.ensures at4

pub returns-then-rest-size : goal.returns-then-rest-size
returns-then-rest-size c =
    let size = values_size c.args.count c.args.body.now in
    let at0 = begun c.args.count c.args.body.now in
    let at1 = goes_on (byte_at c.args.body.now) (after_version c.args.count) size (c.in_ok-version.version, c.in_ok-version.rest.now) c.in_ok-version.ensures at0 in
    let at2 = goes_on (number_at w16 c.in_ok-version.rest.now) (after_places c.args.count c.in_ok-version.version) size (c.in_ok-places.places, c.in_ok-places.rest.now) c.in_ok-places.ensures at1 in
    let at3 = goes_on (number_at w16 c.in_ok-places.rest.now) (after_number c.args.count c.in_ok-version.version c.in_ok-places.places) size (c.in_ok-number.number, c.in_ok-number.rest.now) c.in_ok-number.ensures at2 in
    let test = passed c.in_ok-version.version c.in_ok-places.places c.args.count c.in_ok-number.number c.if-version-ne-VERSION.false c.if-places-count.false c.if-number-eq0.false in
    let at4 = sym (ap (λ b. cond b None (sizes_at c.in_ok-number.number c.in_ok-number.rest.now >>= after_sizes)) test) ∙ at3 in
    let at5 = goes_on (sizes_at c.in_ok-number.number c.in_ok-number.rest.now) after_sizes size (c.in_ok-size.size, c.in_ok-size.rest.now) c.in_ok-size.ensures at4 in
    sym (ap (λ b. cond b (Some c.in_ok-size.size) None) (ne_eqb (length c.in_ok-size.rest.now) c.in_ok-size.size c.if-rest-size.true)) ∙ at5

pub returns : goal.returns
returns c =
    let size = values_size c.args.count c.args.body.now in
    let at0 = begun c.args.count c.args.body.now in
    let at1 = goes_on (byte_at c.args.body.now) (after_version c.args.count) size (c.in_ok-version.version, c.in_ok-version.rest.now) c.in_ok-version.ensures at0 in
    let at2 = goes_on (number_at w16 c.in_ok-version.rest.now) (after_places c.args.count c.in_ok-version.version) size (c.in_ok-places.places, c.in_ok-places.rest.now) c.in_ok-places.ensures at1 in
    let at3 = goes_on (number_at w16 c.in_ok-places.rest.now) (after_number c.args.count c.in_ok-version.version c.in_ok-places.places) size (c.in_ok-number.number, c.in_ok-number.rest.now) c.in_ok-number.ensures at2 in
    let test = passed c.in_ok-version.version c.in_ok-places.places c.args.count c.in_ok-number.number c.if-version-ne-VERSION.false c.if-places-count.false c.if-number-eq0.false in
    let at4 = sym (ap (λ b. cond b None (sizes_at c.in_ok-number.number c.in_ok-number.rest.now >>= after_sizes)) test) ∙ at3 in
    let at5 = goes_on (sizes_at c.in_ok-number.number c.in_ok-number.rest.now) after_sizes size (c.in_ok-size.size, c.in_ok-size.rest.now) c.in_ok-size.ensures at4 in
    sym (ap (λ b. cond b (Some c.in_ok-size.size) None) (eq-eqb (length c.in_ok-size.rest.now) c.in_ok-size.size c.if-rest-size.false)) ∙ at5

use Rattle.std.proofs.Common.{Bor, ◌≡◌, ◌≢◌, ◌⊎◌, inl, inr, ℕ, Bool, true, ◌&&◌, eqb, nat_lt, not, false, cond, List, [], Option, None, Some, ap, sym, refl, arith, ◌∙◌}
use Rattle.std.specs.Prelude.{option_map}
use Rattle.std.specs.Int.{w16}
use Rattle.std.proofs.lemmas.Bool.{eq-eqb, lt-ltb, ne_eqb}
use Rattle.std.proofs.lemmas.Result.{IfOk-from_err}
use Rattle.mds_runs.specs.declared.cover.Run.{Run}
use Rattle.mds_runs.specs.GapSteps.{are_parted}
use Rattle.mds_packs.specs.LoopSteps.{with_front}
use Rattle.mds_packs.specs.Unpacked.{◌>>=◌, byte_at, head_at, number_at, runs_at}
use Rattle.mds_packs.proofs.Fields.{step}
use Rattle.mds_packs.proofs.Loops.{none_from}
use Rattle.mds_packs.proofs.unpacking.read_head.Goals as goal

abbrev Read : Type 0
Read = Option (List Run × List ℕ)

-- what is left to read after each number, and after the runs
abbrev after_runs : ℕ → List Run × List ℕ → Read
after_runs count runs = cond (are_parted count None runs.0) (Some runs) None

abbrev after_number : ℕ → ℕ → ℕ → ℕ × List ℕ → Read
after_number count version places number =
    cond (not (eqb version 1 && eqb places count && nat_lt 0 number.0)) None (runs_at number.0 number.1 >>= after_runs count)

abbrev after_places : ℕ → ℕ → ℕ × List ℕ → Read
after_places count version places = number_at w16 places.1 >>= after_number count version places.0

abbrev after_version : ℕ → ℕ × List ℕ → Read
after_version count version = number_at w16 version.1 >>= after_places count version.0

begun : (count : ℕ) (bytes : List ℕ) → (byte_at bytes >>= after_version count) ≡ head_at count bytes
unfolding head_at
begun count bytes = refl

-- where a step gives nothing, nothing is read
ends : {A : Type 0} (read : Option A) (f : A → Read) (all : Read) → None ≡ read → (read >>= f) ≡ all → None ≡ all
ends read f all absent so_far = sym (none_from read f (sym absent)) ∙ so_far

-- and where it gives a value, reading goes on with it
goes_on : {A : Type 0} (read : Option A) (f : A → Read) (all : Read) (x : A) → Some x ≡ read → (read >>= f) ≡ all → f x ≡ all
goes_on read f all x is so_far = sym (step read f x (sym is)) ∙ so_far

passed : (version places count number : ℕ) → version ≡ 1 → places ≡ count → number ≢ 0 → not (eqb version 1 && eqb places count && nat_lt 0 number) ≡ false
passed version places count number one same some =
    let a : eqb version 1 ≡ true = eq-eqb version 1 one in
    let b : eqb places count ≡ true = eq-eqb places count same in
    let d : nat_lt 0 number ≡ true = lt-ltb 0 number (omega arith) in
    rw (a, b, d) refl

wrong_version : (version : ℕ) (same others : Bool) → version ≢ 1 → not (eqb version 1 && same && others) ≡ true
wrong_version version same others wrong = rw (ne_eqb version 1 wrong) refl

wrong_places : (right : Bool) (places count : ℕ) (others : Bool) → places ≢ count → not (right && eqb places count && others) ≡ true
wrong_places true places count others wrong = rw (ne_eqb places count wrong) refl
wrong_places false places count others wrong = refl

no_number : (right same : Bool) (number : ℕ) → number ≡ 0 → not (right && same && nat_lt 0 number) ≡ true
no_number true true number none = rw none refl
no_number true false number none = refl
no_number false same number none = refl

failed : (version places count number : ℕ) → (version ≢ 1) ⊎ (((version ≡ 1) × (places ≢ count)) ⊎ ((version ≡ 1) × (places ≡ count) × (number ≡ 0)))
    → not (eqb version 1 && eqb places count && nat_lt 0 number) ≡ true
failed version places count number (inl wrong) = wrong_version version (eqb places count) (nat_lt 0 number) wrong
failed version places count number (inr (inl wrong)) = wrong_places (eqb version 1) places count (nat_lt 0 number) wrong.1
failed version places count number (inr (inr wrong)) = no_number (eqb version 1) (eqb places count) number wrong.2

no_front : (read : Read) → with_front [] read ≡ read
no_front None = refl
no_front (Some x) = refl

-- the runs that were read behind none
runs_read : (old new : List Run) (rest : Option (Bor (List ℕ))) (read : Read) → old ≡ [] → option_map (λ rest. (new, rest.now)) rest ≡ with_front old read
    → option_map (λ rest. (new, rest.now)) rest ≡ read
runs_read old new rest read none is = is ∙ ap (λ front. with_front front read) none ∙ no_front read

pub returns-in_default-clause-value : goal.returns-in_default-clause-value
returns-in_default-clause-value c =
    let all = head_at c.args.count c.args.bytes.now in
    let at0 = begun c.args.count c.args.bytes.now in
    ends (byte_at c.args.bytes.now) (after_version c.args.count) all c.in_default.ensures at0

pub returns-in_default-u16_at-clause-value : goal.returns-in_default-u16_at-clause-value
returns-in_default-u16_at-clause-value c =
    let all = head_at c.args.count c.args.bytes.now in
    let at0 = begun c.args.count c.args.bytes.now in
    let at1 = goes_on (byte_at c.args.bytes.now) (after_version c.args.count) all (c.in-Some.version, c.in-Some.rest.now) c.in-Some.ensures at0 in
    ends (number_at w16 c.in-Some.rest.now) (after_places c.args.count c.in-Some.version) all c.in_default-u16_at.ensures at1

pub returns-in_default-u16_at-2-clause-value : goal.returns-in_default-u16_at-2-clause-value
returns-in_default-u16_at-2-clause-value c =
    let all = head_at c.args.count c.args.bytes.now in
    let at0 = begun c.args.count c.args.bytes.now in
    let at1 = goes_on (byte_at c.args.bytes.now) (after_version c.args.count) all (c.in-Some.version, c.in-Some.rest.now) c.in-Some.ensures at0 in
    let at2 = goes_on (number_at w16 c.in-Some.rest.now) (after_places c.args.count c.in-Some.version) all (c.in-Some-u16_at.places, c.in-Some-u16_at.rest.now) c.in-Some-u16_at.ensures at1 in
    ends (number_at w16 c.in-Some-u16_at.rest.now) (after_number c.args.count c.in-Some.version c.in-Some-u16_at.places) all c.in_default-u16_at-2.ensures at2

pub returns-in_err-rest-clause-value : goal.returns-in_err-rest-clause-value
returns-in_err-rest-clause-value c = IfOk-from_err _ _ c.from_residual.ensures.0

pub returns-in_default-2-clause-value : goal.returns-in_default-2-clause-value
returns-in_default-2-clause-value c =
    let all = head_at c.args.count c.args.bytes.now in
    let at0 = begun c.args.count c.args.bytes.now in
    let at1 = goes_on (byte_at c.args.bytes.now) (after_version c.args.count) all (c.in-Some.version, c.in-Some.rest.now) c.in-Some.ensures at0 in
    let at2 = goes_on (number_at w16 c.in-Some.rest.now) (after_places c.args.count c.in-Some.version) all (c.in-Some-u16_at.places, c.in-Some-u16_at.rest.now) c.in-Some-u16_at.ensures at1 in
    let at3 = goes_on (number_at w16 c.in-Some-u16_at.rest.now) (after_number c.args.count c.in-Some.version c.in-Some-u16_at.places) all (c.in-Some-u16_at-2.number, c.in-Some-u16_at-2.rest.now) c.in-Some-u16_at-2.ensures at2 in
    let read = runs_at c.in-Some-u16_at-2.number c.in-Some-u16_at-2.rest.now in
    let test = passed c.in-Some.version c.in-Some-u16_at.places c.args.count c.in-Some-u16_at-2.number c.if-version-ne-VERSION.false c.if-places-count.false (λ zero. absurd (omega arith)) in
    let at4 = sym (ap (λ b. cond b None (read >>= after_runs c.args.count)) test) ∙ at3 in
    let runs = runs_read c.args.runs.now.items c.read_runs.new.runs.items c.in_ok-rest.field-0 read c.requires c.in_ok-rest.ensures in
    ends read (after_runs c.args.count) all (sym (ap (λ o. option_map (λ rest. (c.read_runs.new.runs.items, rest.now)) o) c.in_default-2.is) ∙ runs) at4

pub returns-then-not-is_parted-clause-value : goal.returns-then-not-is_parted-clause-value
returns-then-not-is_parted-clause-value c =
    let all = head_at c.args.count c.args.bytes.now in
    let at0 = begun c.args.count c.args.bytes.now in
    let at1 = goes_on (byte_at c.args.bytes.now) (after_version c.args.count) all (c.in-Some.version, c.in-Some.rest.now) c.in-Some.ensures at0 in
    let at2 = goes_on (number_at w16 c.in-Some.rest.now) (after_places c.args.count c.in-Some.version) all (c.in-Some-u16_at.places, c.in-Some-u16_at.rest.now) c.in-Some-u16_at.ensures at1 in
    let at3 = goes_on (number_at w16 c.in-Some-u16_at.rest.now) (after_number c.args.count c.in-Some.version c.in-Some-u16_at.places) all (c.in-Some-u16_at-2.number, c.in-Some-u16_at-2.rest.now) c.in-Some-u16_at-2.ensures at2 in
    let read = runs_at c.in-Some-u16_at-2.number c.in-Some-u16_at-2.rest.now in
    let test = passed c.in-Some.version c.in-Some-u16_at.places c.args.count c.in-Some-u16_at-2.number c.if-version-ne-VERSION.false c.if-places-count.false (λ zero. absurd (omega arith)) in
    let at4 = sym (ap (λ b. cond b None (read >>= after_runs c.args.count)) test) ∙ at3 in
    let runs = runs_read c.args.runs.now.items c.read_runs.new.runs.items c.in_ok-rest.field-0 read c.requires c.in_ok-rest.ensures in
    let found : List Run × List ℕ = (c.read_runs.new.runs.items, c.in-Some-2.rest.now) in
    let at5 = goes_on read (after_runs c.args.count) all found (sym (ap (λ o. option_map (λ rest. (c.read_runs.new.runs.items, rest.now)) o) c.in-Some-2.is) ∙ runs) at4 in
    let parted = sym (c.is_parted.ensures ∙ ap (are_parted c.args.count None) c.as_slice.ensures.value) ∙ c.if-not-is_parted.true in
    sym (ap (λ b. cond b (Some found) None) parted) ∙ at5

pub returns-clause-value : goal.returns-clause-value
returns-clause-value c =
    let all = head_at c.args.count c.args.bytes.now in
    let at0 = begun c.args.count c.args.bytes.now in
    let at1 = goes_on (byte_at c.args.bytes.now) (after_version c.args.count) all (c.in-Some.version, c.in-Some.rest.now) c.in-Some.ensures at0 in
    let at2 = goes_on (number_at w16 c.in-Some.rest.now) (after_places c.args.count c.in-Some.version) all (c.in-Some-u16_at.places, c.in-Some-u16_at.rest.now) c.in-Some-u16_at.ensures at1 in
    let at3 = goes_on (number_at w16 c.in-Some-u16_at.rest.now) (after_number c.args.count c.in-Some.version c.in-Some-u16_at.places) all (c.in-Some-u16_at-2.number, c.in-Some-u16_at-2.rest.now) c.in-Some-u16_at-2.ensures at2 in
    let read = runs_at c.in-Some-u16_at-2.number c.in-Some-u16_at-2.rest.now in
    let test = passed c.in-Some.version c.in-Some-u16_at.places c.args.count c.in-Some-u16_at-2.number c.if-version-ne-VERSION.false c.if-places-count.false (λ zero. absurd (omega arith)) in
    let at4 = sym (ap (λ b. cond b None (read >>= after_runs c.args.count)) test) ∙ at3 in
    let runs = runs_read c.args.runs.now.items c.read_runs.new.runs.items c.in_ok-rest.field-0 read c.requires c.in_ok-rest.ensures in
    let found : List Run × List ℕ = (c.read_runs.new.runs.items, c.in-Some-2.rest.now) in
    let at5 = goes_on read (after_runs c.args.count) all found (sym (ap (λ o. option_map (λ rest. (c.read_runs.new.runs.items, rest.now)) o) c.in-Some-2.is) ∙ runs) at4 in
    let parted = sym (c.is_parted.ensures ∙ ap (are_parted c.args.count None) c.as_slice.ensures.value) ∙ c.if-not-is_parted.false in
    sym (ap (λ b. cond b (Some found) None) parted) ∙ at5

pub returns-clause-lawful : goal.returns-clause-lawful
returns-clause-lawful c = sym (c.is_parted.ensures ∙ ap (are_parted c.args.count None) c.as_slice.ensures.value) ∙ c.if-not-is_parted.false

pub returns-then-version-ne-VERSION-clause-value : goal.returns-then-version-ne-VERSION-clause-value
returns-then-version-ne-VERSION-clause-value c =
    let all = head_at c.args.count c.args.bytes.now in
    let at0 = begun c.args.count c.args.bytes.now in
    let at1 = goes_on (byte_at c.args.bytes.now) (after_version c.args.count) all (c.in-Some.version, c.in-Some.rest.now) c.in-Some.ensures at0 in
    let at2 = goes_on (number_at w16 c.in-Some.rest.now) (after_places c.args.count c.in-Some.version) all (c.in-Some-u16_at.places, c.in-Some-u16_at.rest.now) c.in-Some-u16_at.ensures at1 in
    let at3 = goes_on (number_at w16 c.in-Some-u16_at.rest.now) (after_number c.args.count c.in-Some.version c.in-Some-u16_at.places) all (c.in-Some-u16_at-2.number, c.in-Some-u16_at-2.rest.now) c.in-Some-u16_at-2.ensures at2 in
    let version = c.in-Some.version in
    let places = c.in-Some-u16_at.places in
    let number = c.in-Some-u16_at-2.number in
    let test = failed version places c.args.count number c.then-version-ne-VERSION.either in
    sym (ap (λ b. cond b None (runs_at number c.in-Some-u16_at-2.rest.now >>= after_runs c.args.count)) test) ∙ at3

use Rattle.std.proofs.Common.{Bor, ◌≡◌, ℕ, List, Option, None, Some, ap, sym, refl, ◌∙◌}
use Rattle.std.specs.Prelude.{option_map}
use Rattle.std.specs.Int.{w16}
use Rattle.mds_packs.specs.LoopSteps.{parts_value}
use Rattle.mds_packs.specs.Unpacked.{◌>>=◌, PartsValue, byte_at, number_at, parts_at, text_at}
use Rattle.mds_packs.specs.declared.unpacking.Parts.{Parts}
use Rattle.mds_packs.proofs.Fields.{step}
use Rattle.mds_packs.proofs.Loops.{none_from}
use Rattle.mds_packs.proofs.unpacking.read_parts.Goals as goal

abbrev Read : Type 0
Read = Option (PartsValue × List ℕ)

-- what is left to read after each field
abbrev after_text : ℕ → ℕ → ℕ → ℕ → ℕ → List ℕ × List ℕ → Read
after_text first last flag method code text =
    Some (record { first = first; last = last; flag = flag; method = method; code = code; text = text.0 }, text.1)

abbrev after_code : ℕ → ℕ → ℕ → ℕ → ℕ × List ℕ → Read
after_code first last flag method code = text_at code.1 >>= after_text first last flag method code.0

abbrev after_method : ℕ → ℕ → ℕ → ℕ × List ℕ → Read
after_method first last flag method = number_at w16 method.1 >>= after_code first last flag method.0

abbrev after_flag : ℕ → ℕ → ℕ × List ℕ → Read
after_flag first last flag = byte_at flag.1 >>= after_method first last flag.0

abbrev after_last : ℕ → ℕ × List ℕ → Read
after_last first last = byte_at last.1 >>= after_flag first last.0

abbrev after_first : ℕ × List ℕ → Read
after_first first = number_at w16 first.1 >>= after_last first.0

begun : (bytes : List ℕ) → (number_at w16 bytes >>= after_first) ≡ parts_at bytes
unfolding parts_at
begun bytes = refl

-- where a step gives nothing, nothing is read
ends : {A : Type 0} (read : Option A) (f : A → Read) (all : Read) (r : Option (Parts × Bor (List ℕ))) → r ≡ None → None ≡ read → (read >>= f) ≡ all
    → option_map (λ (x : Parts × Bor (List ℕ)). (parts_value x.0, x.1.now)) r ≡ all
ends read f all r none absent so_far =
    ap (λ (o : Option (Parts × Bor (List ℕ))). option_map (λ (x : Parts × Bor (List ℕ)). (parts_value x.0, x.1.now)) o) none
    ∙ sym (none_from read f (sym absent)) ∙ so_far

-- and where it gives a value, reading goes on with it
goes_on : {A : Type 0} (read : Option A) (f : A → Read) (all : Read) (x : A) → Some x ≡ read → (read >>= f) ≡ all → f x ≡ all
goes_on read f all x is so_far = sym (step read f x (sym is)) ∙ so_far

pub returns-in_err-first : goal.returns-in_err-first
returns-in_err-first c =
    let all = parts_at c.args.bytes.now in
    let at0 = begun c.args.bytes.now in
    ends (number_at w16 c.args.bytes.now) after_first all c.from_residual.result c.from_residual.ensures c.in_err-first.ensures at0

pub returns-in_err-last : goal.returns-in_err-last
returns-in_err-last c =
    let all = parts_at c.args.bytes.now in
    let at0 = begun c.args.bytes.now in
    let at1 = goes_on (number_at w16 c.args.bytes.now) after_first all (c.in_ok-first.first, c.in_ok-first.rest.now) c.in_ok-first.ensures at0 in
    ends (number_at w16 c.in_ok-first.rest.now) (after_last c.in_ok-first.first) all c.from_residual-in_err-last.result c.from_residual-in_err-last.ensures c.in_err-last.ensures at1

pub returns-in_err-flag : goal.returns-in_err-flag
returns-in_err-flag c =
    let all = parts_at c.args.bytes.now in
    let at0 = begun c.args.bytes.now in
    let at1 = goes_on (number_at w16 c.args.bytes.now) after_first all (c.in_ok-first.first, c.in_ok-first.rest.now) c.in_ok-first.ensures at0 in
    let at2 = goes_on (number_at w16 c.in_ok-first.rest.now) (after_last c.in_ok-first.first) all (c.in_ok-last.last, c.in_ok-last.rest.now) c.in_ok-last.ensures at1 in
    ends (byte_at c.in_ok-last.rest.now) (after_flag c.in_ok-first.first c.in_ok-last.last) all c.from_residual-in_err-flag.result c.from_residual-in_err-flag.ensures c.in_err-flag.ensures at2

pub returns-in_err-method : goal.returns-in_err-method
returns-in_err-method c =
    let all = parts_at c.args.bytes.now in
    let at0 = begun c.args.bytes.now in
    let at1 = goes_on (number_at w16 c.args.bytes.now) after_first all (c.in_ok-first.first, c.in_ok-first.rest.now) c.in_ok-first.ensures at0 in
    let at2 = goes_on (number_at w16 c.in_ok-first.rest.now) (after_last c.in_ok-first.first) all (c.in_ok-last.last, c.in_ok-last.rest.now) c.in_ok-last.ensures at1 in
    let at3 = goes_on (byte_at c.in_ok-last.rest.now) (after_flag c.in_ok-first.first c.in_ok-last.last) all (c.in_ok-flag.flag, c.in_ok-flag.rest.now) c.in_ok-flag.ensures at2 in
    ends (byte_at c.in_ok-flag.rest.now) (after_method c.in_ok-first.first c.in_ok-last.last c.in_ok-flag.flag) all c.from_residual-in_err-method.result c.from_residual-in_err-method.ensures c.in_err-method.ensures at3

pub returns-in_err-code : goal.returns-in_err-code
returns-in_err-code c =
    let all = parts_at c.args.bytes.now in
    let at0 = begun c.args.bytes.now in
    let at1 = goes_on (number_at w16 c.args.bytes.now) after_first all (c.in_ok-first.first, c.in_ok-first.rest.now) c.in_ok-first.ensures at0 in
    let at2 = goes_on (number_at w16 c.in_ok-first.rest.now) (after_last c.in_ok-first.first) all (c.in_ok-last.last, c.in_ok-last.rest.now) c.in_ok-last.ensures at1 in
    let at3 = goes_on (byte_at c.in_ok-last.rest.now) (after_flag c.in_ok-first.first c.in_ok-last.last) all (c.in_ok-flag.flag, c.in_ok-flag.rest.now) c.in_ok-flag.ensures at2 in
    let at4 = goes_on (byte_at c.in_ok-flag.rest.now) (after_method c.in_ok-first.first c.in_ok-last.last c.in_ok-flag.flag) all (c.in_ok-method.method, c.in_ok-method.rest.now) c.in_ok-method.ensures at3 in
    ends (number_at w16 c.in_ok-method.rest.now) (after_code c.in_ok-first.first c.in_ok-last.last c.in_ok-flag.flag c.in_ok-method.method) all c.from_residual-in_err-code.result c.from_residual-in_err-code.ensures c.in_err-code.ensures at4

pub returns-in_err-text : goal.returns-in_err-text
returns-in_err-text c =
    let all = parts_at c.args.bytes.now in
    let at0 = begun c.args.bytes.now in
    let at1 = goes_on (number_at w16 c.args.bytes.now) after_first all (c.in_ok-first.first, c.in_ok-first.rest.now) c.in_ok-first.ensures at0 in
    let at2 = goes_on (number_at w16 c.in_ok-first.rest.now) (after_last c.in_ok-first.first) all (c.in_ok-last.last, c.in_ok-last.rest.now) c.in_ok-last.ensures at1 in
    let at3 = goes_on (byte_at c.in_ok-last.rest.now) (after_flag c.in_ok-first.first c.in_ok-last.last) all (c.in_ok-flag.flag, c.in_ok-flag.rest.now) c.in_ok-flag.ensures at2 in
    let at4 = goes_on (byte_at c.in_ok-flag.rest.now) (after_method c.in_ok-first.first c.in_ok-last.last c.in_ok-flag.flag) all (c.in_ok-method.method, c.in_ok-method.rest.now) c.in_ok-method.ensures at3 in
    let at5 = goes_on (number_at w16 c.in_ok-method.rest.now) (after_code c.in_ok-first.first c.in_ok-last.last c.in_ok-flag.flag c.in_ok-method.method) all (c.in_ok-code.code, c.in_ok-code.rest.now) c.in_ok-code.ensures at4 in
    ends (text_at c.in_ok-code.rest.now) (after_text c.in_ok-first.first c.in_ok-last.last c.in_ok-flag.flag c.in_ok-method.method c.in_ok-code.code) all c.from_residual-in_err-text.result c.from_residual-in_err-text.ensures c.in_err-text.ensures at5

pub returns : goal.returns
returns c =
    let all = parts_at c.args.bytes.now in
    let at0 = begun c.args.bytes.now in
    let at1 = goes_on (number_at w16 c.args.bytes.now) after_first all (c.in_ok-first.first, c.in_ok-first.rest.now) c.in_ok-first.ensures at0 in
    let at2 = goes_on (number_at w16 c.in_ok-first.rest.now) (after_last c.in_ok-first.first) all (c.in_ok-last.last, c.in_ok-last.rest.now) c.in_ok-last.ensures at1 in
    let at3 = goes_on (byte_at c.in_ok-last.rest.now) (after_flag c.in_ok-first.first c.in_ok-last.last) all (c.in_ok-flag.flag, c.in_ok-flag.rest.now) c.in_ok-flag.ensures at2 in
    let at4 = goes_on (byte_at c.in_ok-flag.rest.now) (after_method c.in_ok-first.first c.in_ok-last.last c.in_ok-flag.flag) all (c.in_ok-method.method, c.in_ok-method.rest.now) c.in_ok-method.ensures at3 in
    let at5 = goes_on (number_at w16 c.in_ok-method.rest.now) (after_code c.in_ok-first.first c.in_ok-last.last c.in_ok-flag.flag c.in_ok-method.method) all (c.in_ok-code.code, c.in_ok-code.rest.now) c.in_ok-code.ensures at4 in
    let at6 = goes_on (text_at c.in_ok-code.rest.now) (after_text c.in_ok-first.first c.in_ok-last.last c.in_ok-flag.flag c.in_ok-method.method c.in_ok-code.code) all (c.in_ok-text.text.now, c.in_ok-text.rest.now) c.in_ok-text.ensures at5 in
    at6

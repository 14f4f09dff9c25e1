use Rattle.std.proofs.Common.{◌≡◌, ◌<◌, ◌≤◌, ◌+◌, ◌++◌, ◌∙◌, ℕ, List, OnErr, length, ap, sym, subst, arith, codes, string_bytes, string_capacity, string_len}
use Rattle.std.proofs.lemmas.List.{append-nil}
use Rattle.std.proofs.lemmas.Result.{MatchResult-from_err}
use Rattle.mds_names.proofs.Texts.{full_front, full_suffix, part_nmi, part_comma, on_err_kept}
use Rattle.mds_names.proofs.stream.Stream.write_to.Goals as goal

pub returns-in_err-push-clause-part : goal.returns-in_err-push-clause-part
returns-in_err-push-clause-part c =
    let nmi : string_bytes c.push.new.self ≡ string_bytes c.args.out.now ++ c.args.self.nmi = c.in_err-push.ensures.bytes ∙ (c.in_ok-push_str.ensures.bytes ∙ ap (λ t. string_bytes c.args.out.now ++ t) c.text-nmi.ensures.value) in
    let part = part_nmi (string_bytes c.args.out.now) (string_bytes c.push.new.self) c.args.self.nmi c.args.self.suffix nmi in
    MatchResult-from_err c.from_residual-in_err-push.result _ _ c.from_residual-in_err-push.ensures.0 (λ _. part)

pub returns-clause-part : goal.returns-clause-part
returns-clause-part c =
    let old = string_bytes c.args.out.now in
    let new = string_bytes c.push_str-2.new.self in
    let nmi : string_bytes c.push_str.new.self ≡ old ++ c.args.self.nmi = c.in_ok-push_str.ensures.bytes ∙ ap (λ t. old ++ t) c.text-nmi.ensures.value in
    let comma : string_bytes c.push.new.self ≡ (old ++ c.args.self.nmi) ++ codes "," = c.in_ok-push.ensures.bytes ∙ (ap (λ t. string_bytes c.push_str.new.self ++ t) (c.in_ok-push.ensures.ascii (omega arith)) ∙ ap (λ t. t ++ codes ",") nmi) in
    on_err_kept c.push_str-2.result new _ _ c.push_str-2.ensures.bytes (λ e. part_comma old new c.args.self.nmi c.args.self.suffix (e ∙ comma))

pub returns-in_err-push_str-clause-part : goal.returns-in_err-push_str-clause-part
returns-in_err-push_str-clause-part c =
    MatchResult-from_err c.from_residual.result _ _ c.from_residual.ensures.0 (λ _. (0, c.in_err-push_str.ensures.bytes ∙ sym (append-nil (string_bytes c.args.out.now))))

pub returns-in_err-push_str-clause-full : goal.returns-in_err-push_str-clause-full
returns-in_err-push_str-clause-full c =
    let within : length c.text-nmi.result.now ≤ length c.args.self.nmi + 1 = omega (arith, ap length c.text-nmi.ensures.value) in
    MatchResult-from_err c.from_residual.result _ _ c.from_residual.ensures.0 (λ _. full_front c.args.self.nmi c.args.self.suffix _ _ _ within c.in_err-push_str.ensures.full)

pub returns-in_err-push-clause-full : goal.returns-in_err-push-clause-full
returns-in_err-push-clause-full c =
    let full : string_capacity c.args.out.now < string_len c.args.out.now + (length c.args.self.nmi + 1) =
    omega (arith, c.in_err-push.ensures.full, c.in_err-push.ensures.ascii_len, c.in_ok-push_str.ensures.capacity, c.in_ok-push_str.ensures.len, ap length c.text-nmi.ensures.value) in
    let within : length c.args.self.nmi + 1 ≤ length c.args.self.nmi + 1 = omega arith in
    MatchResult-from_err c.from_residual-in_err-push.result _ _ c.from_residual-in_err-push.ensures.0 (λ _. full_front c.args.self.nmi c.args.self.suffix _ _ _ within full)

pub returns-clause-full : goal.returns-clause-full
returns-clause-full c =
    let grows : string_capacity c.args.out.now ≤ string_capacity c.push.new.self = omega (arith, c.in_ok-push.ensures.capacity, c.in_ok-push_str.ensures.capacity) in
    let len : string_len c.push.new.self ≡ string_len c.args.out.now + (length c.args.self.nmi + 1) =
    omega (arith, c.in_ok-push.ensures.len, ap length (c.in_ok-push.ensures.ascii (omega arith)), c.in_ok-push_str.ensures.len, ap length c.text-nmi.ensures.value) in
    full_suffix c.push_str-2.result c.args.self.nmi c.args.self.suffix _ _ _ _ grows len
    (subst (λ (t : List ℕ). OnErr c.push_str-2.result (string_capacity c.push.new.self < string_len c.push.new.self + length t)) c.text-suffix.ensures.value c.push_str-2.ensures.full)

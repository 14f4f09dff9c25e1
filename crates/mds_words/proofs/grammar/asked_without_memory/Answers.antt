use Rattle.std.proofs.Common.{◌≡◌, codes, refl, rules, sym}
use Rattle.std.proofs.lemmas.Slice.Eq.{bytes_eq-Decides}
use Rattle.mds_words.proofs.Named.{differs, only_first}
use Rattle.mds_words.proofs.grammar.asked_without_memory.Goals as goal

pub returns-in_default : goal.returns-in_default
returns-in_default c = λ kinds named.
    let name = c.args.name.now in
    let no = c.in_default in
    let last = rw (
      differs (codes "check") name no.not-check,
      differs (codes "init") name no.not-init,
      differs (codes "migrate") name no.not-migrate,
      differs (codes "substitute") name no.not-substitute,
      differs (codes "holidays") name no.not-holidays,
    ) at named in
    let is : name ≡ codes "serve" = sym ((bytes_eq-Decides (codes "serve") name).0 (only_first _ _ refl last)) in
    (is, c.requires, search rules, search rules, search rules)

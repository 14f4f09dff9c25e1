use Rattle.std.proofs.Common.{codes}
use Rattle.mds_words.proofs.Named.{differs, no_query}
use Rattle.mds_words.proofs.grammar.asked.Goals as goal

pub returns-in_default-name : goal.returns-in_default-name
returns-in_default-name c = λ kinds named.
    let name = c.args.name.now in
    let no = c.in_default-name in
    let others = no_query kinds name c.in_default.ensures named in
    c.asked_without_memory.ensures kinds (rw (differs (codes "import") name no.not-import, differs (codes "export") name no.not-export, differs (codes "explain") name no.not-explain) at others)

-- A source that is a text in memory.
use Rattle.std.specs.Prelude.{ℕ, List}
use Rattle.mds_lines.specs.declared.text_source.TextSource.{TextSource}

-- the part of the text that was not read yet
abbrev pub text_left : TextSource → List ℕ
text_left source = source.left.now

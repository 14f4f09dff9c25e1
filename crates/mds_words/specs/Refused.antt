-- When words are refused, and why.
use Rattle.std.specs.Prelude.{◌≡◌, ◌⊎◌, ◌↔◌, ⊤, List, [], ◌∷◌, true}
use Rattle.clap.specs.Words.{App, IsAmong, Text, fault_of, takes}
use Rattle.clap.specs.declared.error.kind.ErrorKind.{ErrorKind}
use Rattle.clap.specs.declared.error.kind.ErrorKind.TheVariants.{DisplayVersion}
use Rattle.mds_words.specs.Grammar.{IsMdstore}
use Rattle.mds_words.specs.declared.words.WordsFault.{WordsFault}
use Rattle.mds_words.specs.declared.words.WordsFault.TheVariants as fault

-- the words ask for the version
abbrev pub IsVersion : WordsFault → Type 0
IsVersion fault.Memory = ⊥
IsVersion (fault.Text text) = ⊥
IsVersion (fault.Version text) = ⊤

-- Memory ran out, or words are refused by a kind of error. If that is the version's, they ask for the version.
abbrev pub IsRefusedAs : ErrorKind → WordsFault → Type 0
IsRefusedAs kind refusal = (refusal ≡ fault.Memory) ⊎ (IsVersion refusal ↔ (kind ≡ DisplayVersion))

-- Words that an app takes are refused only if memory runs out, and all others by a kind of error that clap has for them.
abbrev pub IsRefusedBy : App → List Text → WordsFault → Type 0
IsRefusedBy app words refusal = (takes app words ≡ true → refusal ≡ fault.Memory)
    × ((refusal ≡ fault.Memory) ⊎ ((kind : ErrorKind) × IsAmong kind (fault_of app words) × IsRefusedAs kind refusal))

-- No words are never refused, and other words are refused by the grammar.
abbrev pub IsRefused : List Text → WordsFault → Type 0
IsRefused [] refusal = ⊥
IsRefused (word ∷ words) refusal = (app : App) × IsMdstore app × IsRefusedBy app (word ∷ words) refusal

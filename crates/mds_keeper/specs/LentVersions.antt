-- The reading of a version that is lent.
use Rattle.std.specs.Prelude.{◌≡◌, ℕ, Option, Some, None, IfNone, IfSome}
use Rattle.mds_marks.specs.Reading.{ReadingValue}
use Rattle.mds_world.specs.Current.{no_reading}
use Rattle.mds_world.specs.Facts.{key_at}
use Rattle.mds_world.specs.Facts.Fact.{VersionIs}
use Rattle.mds_world.specs.Sets.{◌∈◌}
use Rattle.mds_keeper.specs.Books.{BookValue, book_world}
use Rattle.mds_keeper.specs.declared.lent_version.LentVersion.{LentVersion}

-- its reading: the borrowed mark, and the value
abbrev pub lent_reading : LentVersion → ReadingValue
lent_reading version = record { mark = version.mark.now; value = version.value }

-- the reading of a lent version, or bare N without one
abbrev pub reading_of : Option LentVersion → ReadingValue
reading_of (Some version) = lent_reading version
reading_of None = no_reading

-- It is the version of an interval under an update, of any length; none if the book has none.
pub record IsUnder (book : BookValue) (interval update : ℕ) (lent : Option LentVersion) : Type 0 where
  pub some : IfSome lent (λ version. (version.update ≡ update)
      × (VersionIs (key_at book.stream book.day version.length interval update) (lent_reading version) ∈ book_world book))
  pub none : IfNone lent ((minutes : ℕ) (reading : ReadingValue)
      → VersionIs (key_at book.stream book.day minutes interval update) reading ∈ book_world book → ⊥)

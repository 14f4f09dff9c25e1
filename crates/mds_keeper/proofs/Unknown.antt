-- The book of a day of which nothing is known.
use Rattle.std.proofs.Common.{◌≡◌, ℕ, List, [], None, sym, subst}
use Rattle.std.specs.FinSet as set
use Rattle.mds_names.specs.declared.stream.Stream.{Stream}
use Rattle.mds_world.specs.FactOrder.{exact, total}
use Rattle.mds_world.specs.Facts.Fact.{HeadIs, VersionIs, DetailIs, PeriodIs, JobIs}
use Rattle.mds_world.proofs.Sets.{not_in_empty}
use Rattle.mds_world.specs.World.{IsLawful, World}
use Rattle.mds_keeper.specs.Books.{BookValue, IsDay}
use Rattle.mds_keeper.specs.declared.day_book.Version.{Version}

-- no day
pub nothing_lawful : IsLawful set.empty
nothing_lawful = record {
  agrees = record {
    one_length = λ a b x y i j k. absurd (not_in_empty total exact (HeadIs a) x);
    one_unit = λ a b x y i j. absurd (not_in_empty total exact (HeadIs a) x);
    one_reading = λ key a b x y. absurd (not_in_empty total exact (VersionIs key a) x);
    one_content = λ key a b x y. absurd (not_in_empty total exact (PeriodIs key a) x);
  };
  one_job = λ id a b m n x y. absurd (not_in_empty total exact (JobIs id a m) x);
  closed = record {
    headed = λ key reading x. absurd (not_in_empty total exact (VersionIs key reading) x);
    versioned = λ head x. absurd (not_in_empty total exact (HeadIs head) x);
    detailed = λ detail x. absurd (not_in_empty total exact (DetailIs detail) x);
  };
}

abbrev pub bare : Stream → ℕ → List (ℕ × Version) → BookValue
bare stream day rows = record { stream = stream; day = day; unit = None; rows = rows }

pub bare_is : (stream : Stream) (day : ℕ) (rows : List (ℕ × Version)) → rows ≡ []
    → ((w : World) → IsLawful w → IsDay w (bare stream day rows) → ⊥) → ⊥
bare_is stream day rows e none = none set.empty nothing_lawful (subst (λ r. IsDay set.empty (bare stream day r)) (sym e) (record {
  whole = λ f on h. h;
  only = λ f h. h;
}))

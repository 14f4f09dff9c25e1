-- The days whose readings are shown as rows.
use Rattle.std.specs.Prelude.{◌<◌, ℕ, List, map}
use Rattle.mds_names.specs.declared.stream.Stream.{Stream}
use Rattle.mds_world.specs.World.{World}
use Rattle.mds_keeper.specs.Books.{BookValue}
use Rattle.mds_keeper.specs.Queries.{AreDaysOf}
use Rattle.mds_ranges.proofs.Pairs.{map_pairs}
use Rattle.mds_service.specs.RangeAnswers.{AreDaysIn}

pub days_in : (w : World) (stream : Stream) (first last : ℕ) (books : List BookValue) → AreDaysOf w stream first last books
    → AreDaysIn w stream first last (map (λ book. book.day) books)
days_in w stream first last books are = record {
  each = are.known;
  ascending = map_pairs (λ (book : BookValue). book.day) (λ a b. a < b) books are.ascending;
}

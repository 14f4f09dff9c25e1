-- What rows of mds_detail say in schemas 1 and 2 (profile): details of a stream, whatever the day, under the moment of a header. Each
-- known day gets the greatest of its stream.
use Rattle.std.specs.Prelude.{◌≡◌, ◌↔◌, ℕ, true}
use Rattle.std.specs.Ordering.{is_le, nat_cmp, ordering_then}
use Rattle.std.specs.declared.cmp.Ordering.{Ordering}
use Rattle.sqlite_trees.specs.Tree.{Trees}
use Rattle.sqlite_value.specs.Order.{Row}
use Rattle.mds_names.specs.declared.stream.Stream.{Stream}
use Rattle.mds_terms.specs.Details.{DetailsValue, details_cmp}
use Rattle.mds_world.specs.Facts.{Fact}
use Rattle.mds_world.specs.Facts.Fact.{DetailIs}
use Rattle.mds_world.specs.Lists.{Member}
use Rattle.mds_world.specs.Sets.{◌∈◌}
use Rattle.mds_world.specs.World.{IsKnownDay, World}
use Rattle.mds_tables.specs.RowFacts.{details_from, natural_at, stream_in}
use Rattle.mds_tables.specs.Tables.{detail_tree}
use Rattle.mds_pack_rows.specs.PacksLayout.{world_2}

-- details of a stream under the moment of a header
pub record StreamDetail : Type 0 where
  pub stream : Stream
  pub moment : ℕ
  pub details : DetailsValue

-- what a row says
abbrev pub stream_detail : Row → StreamDetail
stream_detail row = record { stream = stream_in row; moment = natural_at row 3; details = details_from row 4 }

-- by the moment, and then by the details field by field
abbrev pub pair_cmp : StreamDetail → StreamDetail → Ordering
pair_cmp a b = ordering_then (nat_cmp a.moment b.moment) (details_cmp a.details b.details)

-- The greatest of a stream: under the latest header, and among those the greatest field by field.
pub record IsGreatestOf (trees : Trees) (stream : Stream) (detail : StreamDetail) : Type 0 where
  pub held : (row : Row) × Member row (trees detail_tree) × (stream_detail row ≡ detail)
  pub of_stream : detail.stream ≡ stream
  pub greatest : (row : Row) → Member row (trees detail_tree) → stream_in row ≡ stream
      → is_le (pair_cmp (stream_detail row) detail) ≡ true

-- What goes into schema 3: the greatest details of its stream for each known day, and all else as it was.
abbrev pub Comes : Trees → Fact → Type 0
Comes trees (DetailIs x) =
    IsKnownDay (world_2 trees) x.stream x.day
    × IsGreatestOf trees x.stream (record { stream = x.stream; moment = x.moment; details = x.details })
Comes trees fact = fact ∈ world_2 trees

-- the World that tables of schema 2 become
abbrev pub Becomes : Trees → World → Type 0
Becomes trees w = (fact : Fact) → (fact ∈ w) ↔ Comes trees fact

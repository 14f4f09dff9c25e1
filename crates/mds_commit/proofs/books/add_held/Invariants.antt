use Rattle.std.proofs.Common.{◌≡◌, ◌+◌, ◌++◌, ℕ, length, map}
use Rattle.mds_names.specs.declared.stream.Stream.{Stream}
use Rattle.mds_keeper.specs.Books.{row_fact}
use Rattle.mds_pack_rows.specs.PackFacts.{facts_from, readings_facts}
use Rattle.mds_commit.proofs.books.add_held.Given as goal

abbrev pub invariant-loop-reading : goal.invariant-loop-reading
invariant-loop-reading l = record {
  held : (s : Stream) (day : ℕ) → map (row_fact s day) l.versions.items ++ facts_from s day l.length l.update (l.interval + 1) l.reading-iterator.rest.items
      ≡ map (row_fact s day) l.fn.versions.items ++ readings_facts s day l.update l.fn.readings.items;
  len : l.reading-iterator.rest.len ≡ length l.reading-iterator.rest.items;
  count : l.interval + length l.reading-iterator.rest.items ≡ length l.fn.readings.items;
}

-- What the texts that add rows mean, whatever tables stand behind those that every schema has.
use Rattle.std.proofs.Common.{◌≡◌, List, ℕ, [], ◌∷◌, codes, refl}
use Rattle.sqlite.specs.Command.TheVariants.{Insert}
use Rattle.sqlite.specs.Listing.{understood}
use Rattle.sqlite.specs.Source.TheVariants.{Values}
use Rattle.sqlite.specs.Term.{Term, lit, col}
use Rattle.sqlite.specs.declared.types.Value.TheVariants.{Null}
use Rattle.sqlite.proofs.Callers.{IsPlain, command_of}
use Rattle.sqlite_tied.specs.Compute.{everything}
use Rattle.mds_tables.specs.Tables.{More, schema_with}

abbrev pub insert_schema : List ℕ
insert_schema = codes "INSERT INTO mds_schema (version) VALUES (?1)"

abbrev pub schema_terms : List Term
schema_terms = lit Null ∷ col 0 0 ∷ []

pub insert_schema_is : (more : More) → command_of (understood (schema_with more) insert_schema) ≡ Insert 0 (Values schema_terms 2)
unfolding understood everything
insert_schema_is more = refl

pub insert_schema_plain : (more : More) → IsPlain (understood (schema_with more) insert_schema)
unfolding understood everything
insert_schema_plain more = (refl, refl)

abbrev pub insert_event : List ℕ
insert_event = codes "INSERT INTO mds_event (nmi, suffix, day, trans, ticket, moment, reading) VALUES (?1, ?2, ?3, ?4, ?5, ?6, ?7)"

abbrev pub event_terms : List Term
event_terms = lit Null ∷ col 0 0 ∷ col 0 1 ∷ col 0 2 ∷ col 0 3 ∷ col 0 4 ∷ col 0 5 ∷ col 0 6 ∷ []

pub insert_event_is : (more : More) → command_of (understood (schema_with more) insert_event) ≡ Insert 4 (Values event_terms 8)
unfolding understood everything
insert_event_is more = refl

pub insert_event_plain : (more : More) → IsPlain (understood (schema_with more) insert_event)
unfolding understood everything
insert_event_plain more = (refl, refl)

-- mds_holiday as data, whatever tables follow those that every schema has: a day.
use Rattle.std.specs.Prelude.{ℕ, codes}
use Rattle.std.proofs.Common.{refl, arith}
use Rattle.sqlite.specs.Listing.{understood}
use Rattle.sqlite_tied.specs.Compute.{everything}
use Rattle.mds_tables.specs.Tables.{More, holiday_table}
use Rattle.mds_tables.specs.Parts.{holiday_part}
use Rattle.mds_tables.specs.Tabling.{IsTabled, Tabling, cast_int}

abbrev pub holiday_tabling : Tabling ℕ
holiday_tabling = record {
  place = holiday_part.place;
  table = holiday_table;
  behind = λ rest. rest;
  cells = holiday_part.cells;
  fact = holiday_part.fact;
  read = holiday_part.read;
  width = 1;
  one = codes "INSERT INTO mds_holiday (day) VALUES (?1)";
  many = codes "INSERT INTO mds_holiday (day) VALUES (?1), (?2), (?3), (?4), (?5), (?6), (?7), (?8), (?9), (?10), (?11), (?12), (?13), (?14), (?15), (?16)";
}

pub holiday_is : (rest : More) → IsTabled holiday_tabling rest
unfolding understood everything
holiday_is rest = record {
  placed = refl;
  wide = λ x. refl;
  fits = λ x. rw cast_int refl;
  says = λ x id. refl;
  one = record { is = refl; plain = (refl, refl); whole = (omega arith, refl, refl) };
  many = record { is = refl; plain = (refl, refl); whole = (omega arith, refl, refl) };
}

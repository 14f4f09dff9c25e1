-- mds_job as data, whatever tables follow those that every schema has: a job, and how many readings it made.
use Rattle.std.specs.Prelude.{codes}
use Rattle.std.proofs.Common.{refl, arith}
use Rattle.sqlite.specs.Listing.{understood}
use Rattle.sqlite_tied.specs.Compute.{everything}
use Rattle.mds_tables.specs.Tables.{More, job_table}
use Rattle.mds_tables.specs.declared.jobs.JobRow.{JobRow}
use Rattle.mds_tables.specs.Parts.{job_part}
use Rattle.mds_tables.specs.Tabling.{IsTabled, Tabling, cast_int}

abbrev pub job_tabling : Tabling JobRow
job_tabling = record {
  place = job_part.place;
  table = job_table;
  behind = λ rest. rest;
  cells = job_part.cells;
  fact = job_part.fact;
  read = job_part.read;
  width = 3;
  one = codes "INSERT INTO mds_job (id, body, total) VALUES (?1, ?2, ?3)";
  many = codes "INSERT INTO mds_job (id, body, total) VALUES (?1, ?2, ?3), (?4, ?5, ?6), (?7, ?8, ?9), (?10, ?11, ?12), (?13, ?14, ?15), (?16, ?17, ?18), (?19, ?20, ?21), (?22, ?23, ?24), (?25, ?26, ?27), (?28, ?29, ?30), (?31, ?32, ?33), (?34, ?35, ?36), (?37, ?38, ?39), (?40, ?41, ?42), (?43, ?44, ?45), (?46, ?47, ?48)";
}

pub job_is : (rest : More) → IsTabled job_tabling rest
unfolding understood everything
job_is rest = record {
  placed = refl;
  wide = λ x. refl;
  fits = λ x. rw cast_int refl;
  says = λ x id. refl;
  one = record { is = refl; plain = (refl, refl); whole = (omega arith, refl, refl) };
  many = record { is = refl; plain = (refl, refl); whole = (omega arith, refl, refl) };
}

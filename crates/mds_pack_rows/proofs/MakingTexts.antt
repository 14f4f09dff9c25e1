-- What the texts that make the tables mean.
use Rattle.std.proofs.Common.{refl, arith}
use Rattle.sqlite.specs.Listing.{understood}
use Rattle.sqlite_tied.specs.Compute.{everything}
use Rattle.sqlite_trees.specs.Sound.{begins, fits_kind, is_free_name, same_name}
use Rattle.sqlite_value.specs.Order.{value_cmp}
use Rattle.mds_tables.specs.Tables.{detail_table, event_table, head_table, holiday_table, job_table, period_table, schema_table, version_table}
use Rattle.mds_tables.specs.Texts.{create_detail, create_event, create_head, create_holiday, create_job, create_period, create_schema, create_version}
use Rattle.mds_tables.proofs.CreateTexts.{IsText}
use Rattle.mds_pack_rows.specs.DailyTables.{create_daydetail, daydetail_table}
use Rattle.mds_pack_rows.specs.FormTables.{create_form, form_table}
use Rattle.mds_pack_rows.specs.PackTables.{create_pack, pack_table}
use Rattle.mds_pack_rows.specs.Schemas.{schema_of}

pub schema_text : IsText (schema_of 0) (schema_of 1) create_schema schema_table
unfolding understood everything fits_kind is_free_name begins same_name value_cmp lib.Utf8.encode lib.Ieee.is_nan lib.Ieee.lt
schema_text = record {
  is_read = refl;
  makeable = record {
    utf8 = (create_schema, (refl, refl));
    named = (schema_table.name, (refl, refl));
    defined = refl;
    free = refl;
    apart = (refl, tt);
    own = refl;
    few = omega arith;
    reals = omega arith;
    keys = (omega arith, tt);
    formed = refl;
    fit = refl;
    short = omega arith;
  };
  makes = refl;
  uncounted = refl;
  placed = refl;
  last = refl;
}

pub head_text : IsText (schema_of 1) (schema_of 2) create_head head_table
unfolding understood everything fits_kind is_free_name begins same_name value_cmp lib.Utf8.encode lib.Ieee.is_nan lib.Ieee.lt
head_text = record {
  is_read = refl;
  makeable = record {
    utf8 = (create_head, (refl, refl));
    named = (head_table.name, (refl, refl));
    defined = refl;
    free = refl;
    apart = (refl, tt);
    own = refl;
    few = omega arith;
    reals = omega arith;
    keys = (omega arith, tt);
    formed = refl;
    fit = refl;
    short = omega arith;
  };
  makes = refl;
  uncounted = refl;
  placed = refl;
  last = refl;
}

pub version_text : IsText (schema_of 2) (schema_of 3) create_version version_table
unfolding understood everything fits_kind is_free_name begins same_name value_cmp lib.Utf8.encode lib.Ieee.is_nan lib.Ieee.lt
version_text = record {
  is_read = refl;
  makeable = record {
    utf8 = (create_version, (refl, refl));
    named = (version_table.name, (refl, refl));
    defined = refl;
    free = refl;
    apart = (refl, tt);
    own = refl;
    few = omega arith;
    reals = omega arith;
    keys = (omega arith, tt);
    formed = refl;
    fit = refl;
    short = omega arith;
  };
  makes = refl;
  uncounted = refl;
  placed = refl;
  last = refl;
}

pub detail_text : IsText (schema_of 3) (schema_of 4) create_detail detail_table
unfolding understood everything fits_kind is_free_name begins same_name value_cmp lib.Utf8.encode lib.Ieee.is_nan lib.Ieee.lt
detail_text = record {
  is_read = refl;
  makeable = record {
    utf8 = (create_detail, (refl, refl));
    named = (detail_table.name, (refl, refl));
    defined = refl;
    free = refl;
    apart = (refl, tt);
    own = refl;
    few = omega arith;
    reals = omega arith;
    keys = (omega arith, tt);
    formed = refl;
    fit = refl;
    short = omega arith;
  };
  makes = refl;
  uncounted = refl;
  placed = refl;
  last = refl;
}

pub event_text : IsText (schema_of 4) (schema_of 5) create_event event_table
unfolding understood everything fits_kind is_free_name begins same_name value_cmp lib.Utf8.encode lib.Ieee.is_nan lib.Ieee.lt
event_text = record {
  is_read = refl;
  makeable = record {
    utf8 = (create_event, (refl, refl));
    named = (event_table.name, (refl, refl));
    defined = refl;
    free = refl;
    apart = (refl, tt);
    own = refl;
    few = omega arith;
    reals = omega arith;
    keys = (omega arith, tt);
    formed = refl;
    fit = refl;
    short = omega arith;
  };
  makes = refl;
  uncounted = refl;
  placed = refl;
  last = refl;
}

pub period_text : IsText (schema_of 5) (schema_of 6) create_period period_table
unfolding understood everything fits_kind is_free_name begins same_name value_cmp lib.Utf8.encode lib.Ieee.is_nan lib.Ieee.lt
period_text = record {
  is_read = refl;
  makeable = record {
    utf8 = (create_period, (refl, refl));
    named = (period_table.name, (refl, refl));
    defined = refl;
    free = refl;
    apart = (refl, tt);
    own = refl;
    few = omega arith;
    reals = omega arith;
    keys = (omega arith, tt);
    formed = refl;
    fit = refl;
    short = omega arith;
  };
  makes = refl;
  uncounted = refl;
  placed = refl;
  last = refl;
}

pub holiday_text : IsText (schema_of 6) (schema_of 7) create_holiday holiday_table
unfolding understood everything fits_kind is_free_name begins same_name value_cmp lib.Utf8.encode lib.Ieee.is_nan lib.Ieee.lt
holiday_text = record {
  is_read = refl;
  makeable = record {
    utf8 = (create_holiday, (refl, refl));
    named = (holiday_table.name, (refl, refl));
    defined = refl;
    free = refl;
    apart = (refl, tt);
    own = refl;
    few = omega arith;
    reals = omega arith;
    keys = (omega arith, tt);
    formed = refl;
    fit = refl;
    short = omega arith;
  };
  makes = refl;
  uncounted = refl;
  placed = refl;
  last = refl;
}

pub job_text : IsText (schema_of 7) (schema_of 8) create_job job_table
unfolding understood everything fits_kind is_free_name begins same_name value_cmp lib.Utf8.encode lib.Ieee.is_nan lib.Ieee.lt
job_text = record {
  is_read = refl;
  makeable = record {
    utf8 = (create_job, (refl, refl));
    named = (job_table.name, (refl, refl));
    defined = refl;
    free = refl;
    apart = (refl, tt);
    own = refl;
    few = omega arith;
    reals = omega arith;
    keys = (omega arith, tt);
    formed = refl;
    fit = refl;
    short = omega arith;
  };
  makes = refl;
  uncounted = refl;
  placed = refl;
  last = refl;
}

pub pack_text : IsText (schema_of 8) (schema_of 9) create_pack pack_table
unfolding understood everything fits_kind is_free_name begins same_name value_cmp lib.Utf8.encode lib.Ieee.is_nan lib.Ieee.lt
pack_text = record {
  is_read = refl;
  makeable = record {
    utf8 = (create_pack, (refl, refl));
    named = (pack_table.name, (refl, refl));
    defined = refl;
    free = refl;
    apart = (refl, tt);
    own = refl;
    few = omega arith;
    reals = omega arith;
    keys = (omega arith, tt);
    formed = refl;
    fit = refl;
    short = omega arith;
  };
  makes = refl;
  uncounted = refl;
  placed = refl;
  last = refl;
}

pub daydetail_text : IsText (schema_of 9) (schema_of 10) create_daydetail daydetail_table
unfolding understood everything fits_kind is_free_name begins same_name value_cmp lib.Utf8.encode lib.Ieee.is_nan lib.Ieee.lt
daydetail_text = record {
  is_read = refl;
  makeable = record {
    utf8 = (create_daydetail, (refl, refl));
    named = (daydetail_table.name, (refl, refl));
    defined = refl;
    free = refl;
    apart = (refl, tt);
    own = refl;
    few = omega arith;
    reals = omega arith;
    keys = (omega arith, tt);
    formed = refl;
    fit = refl;
    short = omega arith;
  };
  makes = refl;
  uncounted = refl;
  placed = refl;
  last = refl;
}

pub form_text : IsText (schema_of 10) (schema_of 11) create_form form_table
unfolding understood everything fits_kind is_free_name begins same_name value_cmp lib.Utf8.encode lib.Ieee.is_nan lib.Ieee.lt
form_text = record {
  is_read = refl;
  makeable = record {
    utf8 = (create_form, (refl, refl));
    named = (form_table.name, (refl, refl));
    defined = refl;
    free = refl;
    apart = (refl, tt);
    own = refl;
    few = omega arith;
    reals = omega arith;
    keys = (omega arith, tt);
    formed = refl;
    fit = refl;
    short = omega arith;
  };
  makes = refl;
  uncounted = refl;
  placed = refl;
  last = refl;
}

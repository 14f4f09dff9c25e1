use Rattle.mds_records.proofs.record.read_record.Goals as goal

pub returns-in-Ok-clause-spells : goal.returns-in-Ok-clause-spells
returns-in-Ok-clause-spells c = rw (c.in-Header.is, ← c.text-text.ensures, ← c.header_name.ensures) (c.in-Ok.ensures _)

pub returns-in-Ok-read_nmi_data_details-clause-spells : goal.returns-in-Ok-read_nmi_data_details-clause-spells
returns-in-Ok-read_nmi_data_details-clause-spells c = rw (c.in-NmiDataDetails.is, ← c.text-text.ensures) (c.in-Ok-read_nmi_data_details.ensures _ _)

pub returns-in-Ok-read_interval_data-clause-spells : goal.returns-in-Ok-read_interval_data-clause-spells
returns-in-Ok-read_interval_data-clause-spells c =
    rw (c.in-IntervalData.is, c.in-Some.is, ← c.text-text.ensures, ← c.count.ensures.value) (c.in-Ok-read_interval_data.ensures.read _)

pub returns-in-Ok-read_interval_event-clause-spells : goal.returns-in-Ok-read_interval_event-clause-spells
returns-in-Ok-read_interval_event-clause-spells c = rw (c.in-IntervalEvent.is, ← c.text-text.ensures) (c.in-Ok-read_interval_event.ensures.read _ _)

pub returns-in-Ok-read_b2b_details-clause-spells : goal.returns-in-Ok-read_b2b_details-clause-spells
returns-in-Ok-read_b2b_details-clause-spells c = rw (c.in-B2bDetails.is, ← c.text-text.ensures) (c.in-Ok-read_b2b_details.ensures _ _)

pub returns-in-Ok-read_accumulation_data-clause-spells : goal.returns-in-Ok-read_accumulation_data-clause-spells
returns-in-Ok-read_accumulation_data-clause-spells c = rw (c.in-AccumulationData.is, ← c.text-text.ensures) (c.in-Ok-read_accumulation_data.ensures _ _)

pub returns-in-Ok-read_accumulation_b2b_details-clause-spells : goal.returns-in-Ok-read_accumulation_b2b_details-clause-spells
returns-in-Ok-read_accumulation_b2b_details-clause-spells c =
    rw (c.in-AccumulationB2bDetails.is, ← c.text-text.ensures) (c.in-Ok-read_accumulation_b2b_details.ensures _ _)

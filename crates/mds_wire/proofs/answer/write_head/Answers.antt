use Rattle.mds_wire.proofs.answer.write_head.Goals as goal

-- the pieces from the last to the first, and then what each is
pub returns : goal.returns
returns c = rw (
  c.append-10.ensures.items,
  c.append_allow.ensures.items,
  c.append-9.ensures.items,
  c.append-8.ensures.items,
  c.append-7.ensures.items,
  c.append-6.ensures.items,
  c.append-5.ensures.items,
  c.append-4.ensures.items,
  c.append-3.ensures.items,
  c.append-2.ensures.items,
  c.append.ensures.items,
  c.requires.empty,
  c.as_bytes.ensures.value,
  c.as_str.ensures,
  c.code.ensures,
  c.as_bytes-2.ensures.value,
  c.phrase.ensures.value,
  c.text.ensures.value,
  c.as_bytes-3.ensures.value,
  c.format.ensures.text,
)

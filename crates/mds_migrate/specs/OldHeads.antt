-- What rows of mds_head say in schemas 1 to 3 (profile): a day's length and unit, and no update. Schema 4 gets a head for each update
-- of the day that has a version.
use Rattle.mds_world.specs.Facts.{Fact, head_at}
use Rattle.mds_world.specs.Facts.Fact.{HeadIs}
use Rattle.mds_world.specs.Sets.{◌∈◌}
use Rattle.mds_world.specs.World.{HasVersion, World}
use Rattle.mds_world.specs.declared.facts.Head.{Head}

-- a head of schemas 1 to 3, with 0 as its update
abbrev pub updateless : Head → Head
updateless head = head_at head.stream head.day 0 head.length head.unit

-- What comes of a World of schema 3. A day's head is put under each update that has a version of its length, and all else is as it
-- was.
abbrev pub IsFormedOf : World → Fact → Type 0
IsFormedOf w (HeadIs head) = (HeadIs (updateless head) ∈ w) × HasVersion w head
IsFormedOf w fact = fact ∈ w

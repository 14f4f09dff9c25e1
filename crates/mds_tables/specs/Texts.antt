-- The statements that make the tables of schema 1 (profile).
use Rattle.std.specs.Prelude.{ℕ, List, codes}

abbrev pub create_schema : List ℕ
create_schema = codes "CREATE TABLE mds_schema (version INTEGER NOT NULL, UNIQUE (version)) STRICT"

abbrev pub create_head : List ℕ
create_head = codes "CREATE TABLE mds_head (nmi TEXT NOT NULL, suffix TEXT NOT NULL, day INTEGER NOT NULL, length INTEGER NOT NULL, unit TEXT NOT NULL, PRIMARY KEY (nmi, suffix, day)) STRICT"

abbrev pub create_version : List ℕ
create_version = codes "CREATE TABLE mds_version (nmi TEXT NOT NULL, suffix TEXT NOT NULL, day INTEGER NOT NULL, slot INTEGER NOT NULL, moment INTEGER NOT NULL, quality TEXT NOT NULL, code INTEGER NOT NULL, note TEXT NOT NULL, amount INTEGER NOT NULL, PRIMARY KEY (nmi, suffix, day, slot, moment), FOREIGN KEY (nmi, suffix, day) REFERENCES mds_head (nmi, suffix, day)) STRICT"

abbrev pub create_detail : List ℕ
create_detail = codes "CREATE TABLE mds_detail (nmi TEXT NOT NULL, suffix TEXT NOT NULL, moment INTEGER NOT NULL, configuration TEXT NOT NULL, register TEXT NOT NULL, datastream TEXT NOT NULL, meter TEXT NOT NULL, next INTEGER NOT NULL, PRIMARY KEY (nmi, suffix, moment, configuration, register, datastream, meter, next)) STRICT"

abbrev pub create_event : List ℕ
create_event = codes "CREATE TABLE mds_event (nmi TEXT NOT NULL, suffix TEXT NOT NULL, day INTEGER NOT NULL, trans TEXT NOT NULL, ticket TEXT NOT NULL, moment INTEGER NOT NULL, reading TEXT NOT NULL, PRIMARY KEY (nmi, suffix, day, trans, ticket, moment, reading)) STRICT"

abbrev pub create_period : List ℕ
create_period = codes "CREATE TABLE mds_period (nmi TEXT NOT NULL, suffix TEXT NOT NULL, register TEXT NOT NULL, start INTEGER NOT NULL, finish INTEGER NOT NULL, moment INTEGER NOT NULL, body TEXT NOT NULL, PRIMARY KEY (nmi, suffix, register, start, finish, moment)) STRICT"

abbrev pub create_holiday : List ℕ
create_holiday = codes "CREATE TABLE mds_holiday (day INTEGER NOT NULL, UNIQUE (day)) STRICT"

abbrev pub create_job : List ℕ
create_job = codes "CREATE TABLE mds_job (id TEXT NOT NULL, body TEXT NOT NULL, total INTEGER NOT NULL, PRIMARY KEY (id)) STRICT"

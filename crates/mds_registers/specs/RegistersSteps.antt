-- What a writer of rows has written. No public contract cites it.
use Rattle.std.specs.Prelude.{◌≡◌, ℕ, false, List, Some}
use Rattle.std.specs.declared.alloc.Global.{Global}
use Rattle.std.specs.declared.vec.Vec.{Vec}
use Rattle.csv.specs.Writing.{default_writer, fields_written, has_written, text_written, writer_setup}
use Rattle.csv.specs.declared.writer.Writer.{Writer}

-- it is between two rows, has the default settings, and has written this text, to its buffer or to what
-- is beneath it
pub record HasWritten (writer : Writer (Vec ℕ Global)) (text : List ℕ) : Type 0 where
  pub plain : writer_setup writer ≡ default_writer
  pub fields : fields_written writer ≡ 0
  pub wrote : has_written writer ≡ false
  pub bytes : text_written (λ (v : Vec ℕ Global). Some v.items) writer ≡ Some text

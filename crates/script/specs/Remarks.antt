-- The remarks in words ("? .." of the protocols).
use Rattle.std.specs.Prelude.{ℕ, List}
use Rattle.script.specs.Text.{ascii}
use Rattle.script.specs.declared.remarks.Remark.{Remark}
use Rattle.script.specs.declared.remarks.Remark.TheVariants.{UnknownCall, WrongNumberOfWords, NotANumber, NumberTooLarge, ListTooLong, BufferTooLarge, NotAByte, FileTooLong, NotHex, ScriptTooLong}

abbrev pub remark_text : Remark → List ℕ
remark_text UnknownCall = ascii "? unknown call"
remark_text WrongNumberOfWords = ascii "? wrong number of words"
remark_text NotANumber = ascii "? not a number"
remark_text NumberTooLarge = ascii "? number too large"
remark_text ListTooLong = ascii "? list too long"
remark_text BufferTooLarge = ascii "? buffer too large"
remark_text NotAByte = ascii "? not a byte"
remark_text FileTooLong = ascii "? file too long"
remark_text NotHex = ascii "? not hex"
remark_text ScriptTooLong = ascii "? script too long"

-- How each reason is told.
use Rattle.std.specs.Prelude.{ℕ, List, codes}
use Rattle.flow.specs.declared.misread.Reason.{Reason}
use Rattle.flow.specs.declared.misread.Reason.TheVariants.{NoValue, NoKey, NoColon, NoComma, Trailing, Unfinished, OpenString, BadEscape, Control, BadNumber, TooDeep, TooManyNodes, TooMuchText, NoMemory}

abbrev pub words_of : Reason → List ℕ
words_of NoValue = codes "a value is wanted here"
words_of NoKey = codes "a key is wanted here: a string or an integer"
words_of NoColon = codes "a colon is wanted here"
words_of NoComma = codes "a comma or the end of the list or map is wanted here"
words_of Trailing = codes "the document has ended, and this follows"
words_of Unfinished = codes "the document ends too early"
words_of OpenString = codes "the string has no closing quote"
words_of BadEscape = codes "this backslash begins no escape"
words_of Control = codes "a control character has to be escaped"
words_of BadNumber = codes "this is no integer of 64 bits"
words_of TooDeep = codes "lists and maps nest too deep"
words_of TooManyNodes = codes "there are too many nodes"
words_of TooMuchText = codes "the strings have too many bytes"
words_of NoMemory = codes "there is no memory left"

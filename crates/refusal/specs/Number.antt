-- The number that document 01, or a card, gives each refusal.
use Rattle.std.specs.Prelude.{ℕ}
use Rattle.refusal.specs.declared.Refusal.{Refusal}
use Rattle.refusal.specs.declared.Refusal.TheVariants.{FileTooLong, FileTooShort, MarkMissing, KeyDistance, ValueDistance, ColumnsOverlap, TableNotSound, WorkTooShort, ColumnLengths, RowNotFinite, TooManyRows, TooManyKeys, SectionAbsent, SumTooLarge, FigureTooLarge, OutputTooShort, TooManyFileRows, TooManyFileGroups, SavedTableLayout, TooFewRows, RaisesTop, TotalExceeds}

-- document 01's number of each refusal, and the cards' from 16 on
abbrev pub number_of : Refusal → ℕ
number_of FileTooLong = 1
number_of FileTooShort = 2
number_of MarkMissing = 3
number_of KeyDistance = 4
number_of ValueDistance = 5
number_of ColumnsOverlap = 6
number_of TableNotSound = 7
number_of WorkTooShort = 8
number_of ColumnLengths = 9
number_of RowNotFinite = 10
number_of TooManyRows = 11
number_of TooManyKeys = 12
number_of SectionAbsent = 13
number_of SumTooLarge = 14
number_of FigureTooLarge = 15
number_of OutputTooShort = 16
number_of TooManyFileRows = 17
number_of TooManyFileGroups = 18
number_of SavedTableLayout = 19
number_of TooFewRows = 20
number_of RaisesTop = 21
number_of TotalExceeds = 22

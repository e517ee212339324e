-- The status of a refusal, and the line that says it.
use Rattle.std.specs.Prelude.{ℕ, List, ◌++◌, codes, decimal as digits_of}
use Rattle.affc_lines.specs.Certificate.{certificate_line, check_line}
use Rattle.affc_lines.specs.Words.{fault_line, source_line}
use Rattle.affc_lines.specs.declared.refusal.Refusal.{Refusal}
use Rattle.affc_lines.specs.declared.refusal.Refusal.TheVariants.{Words, Unread, Source, Printed, Schedule, Meaning, Stuck, Illegal, Budget, Memory, Certificate, Check, Steps, Data}
use Rattle.affc_lines.specs.declared.refusal.UnreadWhy.{UnreadWhy}
use Rattle.affc_lines.specs.declared.refusal.UnreadWhy.TheVariants.{Unreadable, Long}

-- the status of each refusal
abbrev pub status_of : Refusal → ℕ
status_of Words = 2
status_of (Unread file why) = 3
status_of (Source fault) = 4
status_of (Printed place) = 4
status_of (Schedule line) = 6
status_of (Meaning line) = 5
status_of (Stuck line) = 5
status_of (Illegal line) = 7
status_of Budget = 8
status_of Memory = 9
status_of (Certificate fault) = 11
status_of (Check fault) = 11
status_of Steps = 12
status_of (Data number) = 13

-- what is said of data
abbrev pub data_line : (number : ℕ) → List ℕ
data_line number = codes "affc: data line " ++ digits_of number

-- what is said of a file, in front of its name
abbrev pub unread_words : UnreadWhy → List ℕ
unread_words Unreadable = codes "affc: read "
unread_words Long = codes "affc: too long "

-- the line of each refusal, where `name` is the file that is meant
abbrev pub line_of : Refusal → List ℕ → List ℕ
line_of Words name = codes "affc: words\n"
line_of (Unread file why) name = unread_words why ++ name ++ codes "\n"
line_of (Source fault) name = fault_line fault ++ codes "\n"
line_of (Printed place) name = source_line place (codes "printed") ++ codes "\n"
line_of (Schedule line) name = line ++ codes "\n"
line_of (Meaning line) name = line ++ codes "\n"
line_of (Stuck line) name = line ++ codes "\n"
line_of (Illegal line) name = line ++ codes "\n"
line_of Budget name = codes "affc: budget\n"
line_of Memory name = codes "affc: memory\n"
line_of (Certificate fault) name = certificate_line fault ++ codes "\n"
line_of (Check fault) name = check_line fault ++ codes "\n"
line_of Steps name = codes "affc: steps\n"
line_of (Data number) name = data_line number ++ codes "\n"

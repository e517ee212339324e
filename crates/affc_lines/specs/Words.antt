-- The words that say what is wrong with a source.
use Rattle.std.specs.Prelude.{ℕ, List, ◌++◌, codes, decimal}
use Rattle.affc_grammar.specs.declared.fault.NameWhy.{NameWhy}
use Rattle.affc_grammar.specs.declared.fault.NameWhy.TheVariants.{Unknown, Twice, Reserved, Const, Kind, NoRange}
use Rattle.affc_grammar.specs.declared.fault.LimitName.{LimitName}
use Rattle.affc_grammar.specs.declared.fault.LimitName.TheVariants.{Size, Tokens, Run, Depth, Items, Parameters, Range, Loops, Statements, Empty, Accesses, Dimensions, Comparisons, Literal, Coefficient, Pieces}
use Rattle.affc_parse.specs.declared.fault.ParseFault.{ParseFault}
use Rattle.affc_parse.specs.declared.fault.ParseFault.TheVariants.{Memory, BadByte, OpenComment, LongNumber, Syntax, Name, NotAffine, Limit}

abbrev pub name_words : NameWhy → List ℕ
name_words Unknown = codes "name unknown"
name_words Twice = codes "name twice"
name_words Reserved = codes "name reserved"
name_words Const = codes "name const"
name_words Kind = codes "name kind"
name_words NoRange = codes "name range"

abbrev pub limit_words : LimitName → List ℕ
limit_words Size = codes "limit size"
limit_words Tokens = codes "limit tokens"
limit_words Run = codes "limit run"
limit_words Depth = codes "limit depth"
limit_words Items = codes "limit items"
limit_words Parameters = codes "limit parameters"
limit_words Range = codes "limit range"
limit_words Loops = codes "limit loops"
limit_words Statements = codes "limit statements"
limit_words Empty = codes "limit empty"
limit_words Accesses = codes "limit accesses"
limit_words Dimensions = codes "limit dimensions"
limit_words Comparisons = codes "limit comparisons"
limit_words Literal = codes "limit literal"
limit_words Coefficient = codes "limit coefficient"
limit_words Pieces = codes "limit pieces"

-- what is said of a source at a place
abbrev pub source_line : (place : ℕ) → (words : List ℕ) → List ℕ
source_line place words = codes "affc: source at " ++ decimal place ++ codes ": " ++ words

-- what is said of a text that is no program
abbrev pub fault_line : ParseFault → List ℕ
fault_line Memory = codes "affc: memory"
fault_line (BadByte place) = source_line place (codes "byte")
fault_line (OpenComment place) = source_line place (codes "comment")
fault_line (LongNumber place) = source_line place (codes "number")
fault_line (Syntax place) = source_line place (codes "syntax")
fault_line (Name place why) = source_line place (name_words why)
fault_line (NotAffine place) = source_line place (codes "not affine")
fault_line (Limit place which) = source_line place (limit_words which)

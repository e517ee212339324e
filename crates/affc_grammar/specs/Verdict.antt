-- What is answered of a text, by its symbols: for examples, where it computes.
use Rattle.std.specs.Prelude.{ℕ, ◌-◌, Bool, true, false, ◌==◌, List, [], ◌∷◌, ◌++◌, length, codes, Option, Some, None, Result, Ok, Err, if◌then◌else◌}
use Rattle.affc_lex.specs.declared.token.Kind.{Kind}
use Rattle.affc_lex.specs.declared.token.Kind.TheVariants.{Word, Number, Value, Header, Hash, LineEnd, Mark}
use Rattle.affc_lex.specs.Bytes.{same, is_digit, is_letter, next_is}
use Rattle.affc_ast.specs.declared.tree.Program.{Program}
use Rattle.affc_grammar.specs.declared.fault.NameWhy.{NameWhy}
use Rattle.affc_grammar.specs.declared.fault.LimitName.{LimitName}
use Rattle.affc_grammar.specs.Grammar.{Symbol, Text, prelude_symbols, text_symbols}
use Rattle.affc_grammar.specs.Draft.{text_draft}
use Rattle.affc_grammar.specs.Printed.{printed}
use Rattle.affc_ast.specs.Names.{ends}
use Rattle.affc_grammar.specs.Limits.{Limits, Passed, least, shape_passed, limits_of}
use Rattle.affc_grammar.specs.Reads.{TextFault, name_refused, not_affine, limit_passed, tree_of, has_prelude}
use Rattle.affc_grammar.specs.Reader.{At, Deep, Read, give, fail, deep, after, either, many, all, tries, until, inside, finished}
use Rattle.affc_grammar.specs.Reading.{ix_inside, mixed_inside, value_inside, stmts_inside, read_text}

-- the kind of a piece of a line, by its first byte
abbrev pub kind_of : List ℕ → Kind
kind_of piece =
    if next_is is_letter piece then Word
    else (if next_is is_digit piece then (if ends (codes "ULL") piece then Value else Number)
    else (if same piece (codes "#") then Hash
    else (if same piece (codes "\n") then LineEnd
    else (if same piece (codes "<stdint.h>") then Header else Mark))))

abbrev pub piece : List ℕ → List Symbol
piece [] = []
piece (b ∷ bs) = record { kind = kind_of (b ∷ bs); bytes = b ∷ bs } ∷ []

-- the symbols of a line in which a space stands between any two
abbrev pub split : (before : List ℕ) → List ℕ → List Symbol
split before [] = piece before
split before (b ∷ bs) = if b == 32 then piece before ++ split [] bs else split (before ++ b ∷ []) bs

abbrev pub line : List ℕ → List Symbol
line bytes = split [] bytes

pub data Verdict : Type 0 where
  reads : Program → Verdict
  -- the number of the first symbol at which no text goes on
  syntax : ℕ → Verdict
  name : ℕ → NameWhy → Verdict
  product : ℕ → Verdict
  limit : ℕ → LimitName → Verdict

abbrev pub of_tree : Result Program TextFault → Verdict
of_tree (Ok tree) = reads tree
of_tree (Err (name_refused r)) = name r.at r.why
of_tree (Err (not_affine at)) = product at
of_tree (Err (limit_passed p)) = limit p.at p.which

abbrev pub of_read : Limits → ℕ → Read Symbol Text → Verdict
of_read limits count (Ok r) = of_tree (tree_of limits (text_draft r.0))
of_read limits count (Err (At rest)) = syntax (count - length rest)
of_read limits count (Err Deep) = syntax count

abbrev pub of_shape : Limits → List Symbol → Option Passed → Verdict
of_shape limits ss (Some p) = limit p.at p.which
of_shape limits ss None = of_read limits (length ss) (read_text limits.depth ss)

-- limits on the tokens come before the grammar, and this before names, products and the other limits
abbrev pub verdict : List Symbol → Verdict
verdict ss = let limits = limits_of (has_prelude ss) in of_shape limits ss (least (shape_passed limits ss))

-- what is opened where a verdict is computed
unfoldable pub computing : Unit {0}
unfolding give fail deep after either many all tries until inside finished ix_inside mixed_inside value_inside stmts_inside read_text
computing = tt

abbrev pub is_read : Verdict → Bool
is_read (reads tree) = true
is_read _ = false

abbrev pub no_program : Program
no_program = record { name = []; params = []; context = []; temps = []; body = []; prelude = false }

abbrev pub program_of : Verdict → Program
program_of (reads tree) = tree
program_of _ = no_program

-- the text that is printed for the tree of these symbols
abbrev pub reprinted : List Symbol → List Symbol
reprinted ss = text_symbols (printed (program_of (verdict ss)))

abbrev pub head_lines : List ℕ
head_lines = codes "# include <stdint.h> \n # pragma affc param N 1 4 \n "

abbrev pub function_head : List ℕ
function_head = codes "void f ( int64_t N , const uint64_t in [ N ] , uint64_t out [ N ] ) { "

-- a function with these statements over a parameter N from 1 to 4, an input and an output; its statements begin with symbol 32
abbrev pub around : List ℕ → List Symbol
around body = line (head_lines ++ function_head ++ body ++ codes " }")

-- the same with the prelude; its statements begin with symbol 33
abbrev pub with_prelude : List ℕ → List Symbol
with_prelude body = line head_lines ++ prelude_symbols true ++ line (function_head ++ body ++ codes " }")

-- Each line with its status, written out. The place, the part, the item or the line of data is 7.
use Rattle.std.specs.Prelude.{◌≡◌, ℕ, ℤ, false, pos, negsuc, List, [], ◌∷◌, Some, codes}
use Rattle.affc_ast.specs.declared.tree.Cond.TheVariants as cond
use Rattle.affc_ast.specs.declared.tree.Instance.{Instance}
use Rattle.affc_ast.specs.declared.tree.Ix.{Ix}
use Rattle.affc_ast.specs.declared.tree.Ix.TheVariants.{Name as Named}
use Rattle.affc_ast.specs.declared.tree.Op.TheVariants as op
use Rattle.affc_ast.specs.declared.tree.Param.TheVariants.{Number, Array}
use Rattle.affc_ast.specs.declared.tree.Program.{Program}
use Rattle.affc_ast.specs.declared.tree.Rel.TheVariants.{Less}
use Rattle.affc_ast.specs.declared.tree.Role.TheVariants.{Input, Output, Temp}
use Rattle.affc_ast.specs.declared.tree.Stmt.TheVariants.{For, If, Assign}
use Rattle.affc_ast.specs.declared.tree.Val.TheVariants.{Load}
use Rattle.affc_ast.specs.Cause.{Extent, Overflow, OutOfBounds, Unwritten}
use Rattle.affc_ast.specs.Examples.{n, i, input, output, temporary, lit, assign, instance}
use Rattle.affc_grammar.specs.declared.fault.LimitName.TheVariants as limit
use Rattle.affc_grammar.specs.declared.fault.NameWhy.TheVariants as why
use Rattle.affc_parse.specs.declared.fault.ParseFault.TheVariants.{BadByte, OpenComment, LongNumber, Syntax, Name, NotAffine, Limit}
use Rattle.affc_schedtext.specs.declared.plan.SchedFault.TheVariants as sched
use Rattle.affc_bounds.specs.declared.fault.MeaningFault.TheVariants as meaning
use Rattle.affc_cert.specs.declared.cert.CertFault.TheVariants as text
use Rattle.affc_check.specs.declared.fault.CheckFault.TheVariants as items
use Rattle.affc_lines.specs.Lines.{status_of, line_of}
use Rattle.affc_lines.specs.Meaning.{meaning_line, unwritten_line}
use Rattle.affc_lines.specs.Schedule.{sched_line, illegal_line}
use Rattle.affc_lines.specs.Stuck.{stuck_line, numbers_text}
use Rattle.affc_lines.specs.Words.{fault_line}
use Rattle.affc_lines.specs.declared.refusal.Operand.TheVariants as operand
use Rattle.affc_lines.specs.declared.refusal.Refusal.{Refusal}
use Rattle.affc_lines.specs.declared.refusal.Refusal.TheVariants.{Words, Unread, Source, Printed, Schedule, Meaning, Stuck, Illegal, Budget, Memory, Certificate, Check, Steps, Data}
use Rattle.affc_lines.specs.declared.refusal.UnreadWhy.TheVariants.{Unreadable, Long}

-- ---- Refusals, of a file `x`

abbrev pub Says : Refusal → (status : ℕ) → (line : List ℕ) → Type 0
Says refusal status line = (status_of refusal ≡ status) × (line_of refusal (codes "x") ≡ line)

abbrev pub EachRefusalSays : Type 0
EachRefusalSays =
    Says Words 2 (codes "affc: words\n")
    × Says (Unread operand.Source Unreadable) 3 (codes "affc: read x\n")
    × Says (Unread operand.Data Long) 3 (codes "affc: too long x\n")
    × Says (Source (BadByte 7)) 4 (codes "affc: source at 7: byte\n")
    × Says (Printed 7) 4 (codes "affc: source at 7: printed\n")
    × Says (Meaning (codes "m")) 5 (codes "m\n")
    × Says (Stuck (codes "s")) 5 (codes "s\n")
    × Says (Schedule (codes "p")) 6 (codes "p\n")
    × Says (Illegal (codes "i")) 7 (codes "i\n")
    × Says Budget 8 (codes "affc: budget\n")
    × Says Memory 9 (codes "affc: memory\n")
    × Says (Certificate text.Json) 11 (codes "affc: certificate: json\n")
    × Says (Certificate text.Version) 11 (codes "affc: certificate: version\n")
    × Says (Certificate (text.Shape 7)) 11 (codes "affc: certificate: shape 7\n")
    × Says (Certificate (text.Number 7)) 11 (codes "affc: certificate: number 7\n")
    × Says (Check (items.Number 7)) 11 (codes "affc: certificate: number 7\n")
    × Says (Check (items.Proof 7)) 11 (codes "affc: certificate: proof 7\n")
    × Says (Check (items.Shown 7)) 11 (codes "affc: certificate: shown 7\n")
    × Says Steps 12 (codes "affc: steps\n")
    × Says (Data 7) 13 (codes "affc: data line 7\n")

-- ---- Sources

abbrev pub FaultsOfSources : Type 0
FaultsOfSources =
    (fault_line (BadByte 7) ≡ codes "affc: source at 7: byte")
    × (fault_line (OpenComment 7) ≡ codes "affc: source at 7: comment")
    × (fault_line (LongNumber 7) ≡ codes "affc: source at 7: number")
    × (fault_line (Syntax 7) ≡ codes "affc: source at 7: syntax")
    × (fault_line (NotAffine 7) ≡ codes "affc: source at 7: not affine")
    × (fault_line (Name 7 why.Unknown) ≡ codes "affc: source at 7: name unknown")
    × (fault_line (Name 7 why.Twice) ≡ codes "affc: source at 7: name twice")
    × (fault_line (Name 7 why.Reserved) ≡ codes "affc: source at 7: name reserved")
    × (fault_line (Name 7 why.Const) ≡ codes "affc: source at 7: name const")
    × (fault_line (Name 7 why.Kind) ≡ codes "affc: source at 7: name kind")
    × (fault_line (Name 7 why.NoRange) ≡ codes "affc: source at 7: name range")

abbrev pub LimitsOfSources : Type 0
LimitsOfSources =
    (fault_line (Limit 7 limit.Size) ≡ codes "affc: source at 7: limit size")
    × (fault_line (Limit 7 limit.Tokens) ≡ codes "affc: source at 7: limit tokens")
    × (fault_line (Limit 7 limit.Run) ≡ codes "affc: source at 7: limit run")
    × (fault_line (Limit 7 limit.Depth) ≡ codes "affc: source at 7: limit depth")
    × (fault_line (Limit 7 limit.Items) ≡ codes "affc: source at 7: limit items")
    × (fault_line (Limit 7 limit.Parameters) ≡ codes "affc: source at 7: limit parameters")
    × (fault_line (Limit 7 limit.Range) ≡ codes "affc: source at 7: limit range")
    × (fault_line (Limit 7 limit.Loops) ≡ codes "affc: source at 7: limit loops")
    × (fault_line (Limit 7 limit.Statements) ≡ codes "affc: source at 7: limit statements")
    × (fault_line (Limit 7 limit.Empty) ≡ codes "affc: source at 7: limit empty")
    × (fault_line (Limit 7 limit.Accesses) ≡ codes "affc: source at 7: limit accesses")
    × (fault_line (Limit 7 limit.Dimensions) ≡ codes "affc: source at 7: limit dimensions")
    × (fault_line (Limit 7 limit.Comparisons) ≡ codes "affc: source at 7: limit comparisons")
    × (fault_line (Limit 7 limit.Literal) ≡ codes "affc: source at 7: limit literal")
    × (fault_line (Limit 7 limit.Coefficient) ≡ codes "affc: source at 7: limit coefficient")
    × (fault_line (Limit 7 limit.Pieces) ≡ codes "affc: source at 7: limit pieces")

-- ---- A program

abbrev j : Ix
j = Named (record { 0 = 2 })

-- void f(int64_t N, const uint64_t in[N], uint64_t out[N]) {
--   uint64_t t[N];
--   for (int64_t i = 0; i < N; i++) {
--     t[i] = in[i];
--     if (i < N) for (int64_t j = 0; j < i; j++) out[i] += t[j];
--     else t[i] = out[i];
--   }
-- }
abbrev pub summing : Program
summing = record {
  name = codes "f";
  params = Number (codes "N") (pos 1) (pos 4)
      ∷ Array (record { name = codes "in"; role = Input; extents = n ∷ [] })
      ∷ Array (record { name = codes "out"; role = Output; extents = n ∷ [] })
      ∷ [];
  context = [];
  temps = record { name = codes "t"; role = Temp; extents = n ∷ [] } ∷ [];
  body = For (codes "i") (lit 0) Less n
      (assign temporary i input i
      ∷ If (cond.Compare Less i n) (For (codes "j") (lit 0) Less i (Assign (Some op.Add) output (i ∷ []) (Load temporary (j ∷ [])) ∷ []) ∷ []) (assign temporary i output i ∷ [])
      ∷ [])
      ∷ [];
  prelude = false;
}

-- N is 3
abbrev pub three : List ℤ
three = pos 3 ∷ []

abbrev pub here : Instance
here = instance 1 (pos 2 ∷ pos 1 ∷ [])

-- two numbers stand behind one another, and without numbers there are no words
abbrev pub NumbersAreNamed : Type 0
NumbersAreNamed =
    (numbers_text (codes " at ") (Number (codes "N") (pos 1) (pos 4) ∷ Number (codes "M") (pos 1) (pos 4) ∷ []) (pos 3 ∷ negsuc 1 ∷ []) ≡ codes " at N=3 M=-2")
    × (numbers_text (codes " at ") [] [] ≡ [])

-- of `+=` its own element is loaded first; the store is the last access
abbrev pub RunsAreStuck : Type 0
RunsAreStuck =
    (stuck_line summing three (Extent 2) ≡ codes "affc: extent of t at N=3")
    × (stuck_line summing three (OutOfBounds (instance 0 (negsuc 0 ∷ [])) 0) ≡ codes "affc: bounds of in at N=3 in S0(-1) access 0")
    × (stuck_line summing three (OutOfBounds (instance 0 (pos 2 ∷ [])) 1) ≡ codes "affc: bounds of t at N=3 in S0(2) access 1")
    × (stuck_line summing three (OutOfBounds here 0) ≡ codes "affc: bounds of out at N=3 in S1(2, 1) access 0")
    × (stuck_line summing three (OutOfBounds here 2) ≡ codes "affc: bounds of out at N=3 in S1(2, 1) access 2")
    × (stuck_line summing three (OutOfBounds (instance 2 (pos 2 ∷ [])) 0) ≡ codes "affc: bounds of out at N=3 in S2(2) access 0")
    × (stuck_line summing three (Unwritten here 1) ≡ codes "affc: unwritten t at N=3 in S1(2, 1) access 1")
    × (stuck_line summing three (Overflow 7) ≡ codes "affc: overflow at node 7")

abbrev pub ProgramsAreWrong : Type 0
ProgramsAreWrong =
    (meaning_line summing (meaning.IteratorRange 0 0) ≡ codes "affc: iterator range of i in S0")
    × (meaning_line summing (meaning.IteratorRange 1 1) ≡ codes "affc: iterator range of j in S1")
    × (meaning_line summing (meaning.IteratorRange 2 0) ≡ codes "affc: iterator range of i in S2")
    × (meaning_line summing meaning.Context ≡ codes "affc: context is empty")
    × (meaning_line summing (meaning.Extent temporary three) ≡ codes "affc: extent of t at N=3")
    × (meaning_line summing (meaning.Bounds temporary 1 three here) ≡ codes "affc: bounds of t at N=3 in S1(2, 1) access 1")
    × (unwritten_line summing three here 1 ≡ codes "affc: unwritten t at N=3 in S1(2, 1) access 1")

-- ---- Schedules

abbrev pub SchedulesAreWrong : Type 0
SchedulesAreWrong =
    (sched_line summing (sched.Syntax 7) ≡ codes "affc: schedule at 7: syntax")
    × (sched_line summing (sched.Statement 7) ≡ codes "affc: schedule at 7: statement")
    × (sched_line summing (sched.Length 7) ≡ codes "affc: schedule at 7: length")
    × (sched_line summing (sched.Fold 7) ≡ codes "affc: schedule at 7: fold")
    × (sched_line summing (sched.Limit 7) ≡ codes "affc: schedule at 7: limit")
    × (sched_line summing (sched.Inverse 1 0) ≡ codes "affc: schedule: inverse of S1 component 0")
    × (sched_line summing (sched.Basis temporary 0) ≡ codes "affc: schedule: basis of t component 0")
    × (illegal_line summing three (instance 0 (pos 1 ∷ [])) here ≡ codes "affc: illegal at N=3: S0(1) before S1(2, 1)")

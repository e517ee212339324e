-- Readers of drafts, from a list of tokens; `Gives` is what a function of the code answers where such a reader says what is read.
use Rattle.std.specs.Prelude.{◌≡◌, ◌≤◌, ℕ, zero, suc, List, length, drop, min, Option, Some, None, Result, Ok, Err}
use Rattle.affc_grammar.specs.Grammar.{Symbol}
use Rattle.affc_grammar.specs.Reader.{At, Deep, Read, Reader, then_read}
use Rattle.affc_grammar.specs.Reading.{this_mark}
use Rattle.affc_syntax.specs.declared.ahead.Stop as stop
use Rattle.affc_syntax.specs.declared.ahead.Stop.TheVariants as s
use Rattle.affc_syntax.specs.Ahead.{past}

abbrev pub on_past : {K A : Type 0} → Option (K × List Symbol) → (K → Reader Symbol A) → Read Symbol A → Read Symbol A
on_past None next other = other
on_past (Some r) next other = next r.0 r.1

-- behind this mark, with what was read before it
abbrev pub closed : {A : Type 0} → List ℕ → A → Reader Symbol A
closed mark a ts = on_past (past (this_mark mark) ts) (λ _ us. Ok (a, us)) (Err (At ts))

-- what was read, seen in another way
abbrev pub mapped : {A D : Type 0} → (A → D) → Read Symbol A → Read Symbol D
mapped f (Ok x) = Ok (f x.0, x.1)
mapped f (Err (At ts)) = Err (At ts)
mapped f (Err Deep) = Err Deep

-- ---- What a function answers, where memory is enough

abbrev pub Fails : {D : Type 0} → List Symbol → stop.Stop → Read Symbol D → Type 0
Fails ss s.Memory read = Unit {0}
Fails ss s.Deep read = read ≡ Err Deep
Fails ss (s.At next) read = read ≡ Err (At (drop next ss))

-- of all symbols, what was read and the number of the symbol behind it
abbrev pub Gives : {T D : Type 0} → List Symbol → (T → D) → Result (T × ℕ) stop.Stop → Read Symbol D → Type 0
Gives ss see (Ok r) read = read ≡ Ok (see r.0, drop r.1 ss)
Gives ss see (Err f) read = Fails ss f read

-- the number behind what was read, or that of the fault, is at most the number behind the last symbol
abbrev pub IsWithin : {S T : Type 0} → List S → Result (T × ℕ) stop.Stop → Type 0
IsWithin ss (Ok r) = r.1 ≤ length ss
IsWithin ss (Err (s.At n)) = n ≤ length ss
IsWithin ss (Err s.Deep) = Unit {0}
IsWithin ss (Err s.Memory) = Unit {0}

-- with each number behind the last symbol as that of its end
abbrev pub counted : {T : Type 0} → (end : ℕ) → Result (T × ℕ) stop.Stop → Result (T × ℕ) stop.Stop
counted end (Ok r) = Ok (r.0, min r.1 end)
counted end (Err (s.At n)) = Err (s.At (min n end))
counted end (Err s.Deep) = Err s.Deep
counted end (Err s.Memory) = Err s.Memory

-- ---- Again and again

abbrev pub more : {A K : Type 0} → (Symbol → Option K) → (K → A → Reader Symbol A) → ℕ → A → Reader Symbol A
more test turn zero left ts = Ok (left, ts)
more test turn (suc n) left ts = on_past (past test ts) (λ k us. then_read (turn k left us) (more test turn n)) (Ok (left, ts))

unfoldable pub all_more : {A K : Type 0} → (Symbol → Option K) → (K → A → Reader Symbol A) → A → Reader Symbol A
all_more test turn left ts = more test turn (length ts) left ts

abbrev pub itself : ℕ → ℕ
itself n = n

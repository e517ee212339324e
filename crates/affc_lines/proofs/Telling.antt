-- A line on err, written piece by piece.
use Rattle.std.proofs.Common.{◌≡◌, ◌<◌, ◌≤◌, ◌++◌, ℕ, List, [], codes, subst, Option, Some, None, Result, Ok, Err, IfErr, take, drop, refl, ap, sym, ◌∙◌, append_assoc, inl, inr, arith}
use Rattle.std.proofs.lemmas.List.{take-append-drop, append-nil}
use Rattle.affc_io.specs.Count.{Rose}
use Rattle.affc_io.specs.Front.{IsFront}
use Rattle.affc_io.specs.Put.{put_of, IsCausedBy}
use Rattle.affc_io.specs.State.{SinkState, SinkCounts}
use Rattle.affc_io.specs.Taken.{grown}
use Rattle.affc_io.specs.declared.put.PutFault.{PutFault}
use Rattle.affc_io.specs.declared.put.PutCause.{PutCause}
use Rattle.affc_io.specs.declared.put.PutCause.TheVariants.{Fault, Memory}
use Rattle.affc_lines.specs.Told.{Falters, Told, IsTold}
use Rattle.affc_lines.specs.Lines.{status_of, line_of}
use Rattle.affc_lines.specs.declared.refusal.Refusal.{Refusal}
use Rattle.affc_lines.specs.declared.refusal.Refusal.TheVariants.{Memory as Short}

pub grown-nil : (o : Option (List ℕ)) → grown o [] ≡ o
grown-nil None = refl
grown-nil (Some bytes) = ap Some (append-nil bytes)

pub grown-grown : (o : Option (List ℕ)) (a b : List ℕ) → grown (grown o a) b ≡ grown o (a ++ b)
grown-grown None a b = refl
grown-grown (Some x) a b = ap Some (append_assoc x a b)

-- what a put took is a front of the piece
pub front_of_put : {T : Type 0} (r : Result T PutFault) (bytes : List ℕ) → IsFront bytes (put_of r bytes)
front_of_put (Ok x) bytes = ([], append-nil bytes)
front_of_put (Err fault) bytes = (drop fault.written bytes, take-append-drop fault.written bytes)

front_within : (a b f : List ℕ) → IsFront a f → IsFront (a ++ b) f
front_within a b f h = (h.0 ++ b, sym (append_assoc f h.0 b) ∙ ap (λ x. x ++ b) h.1)

front_after : (a b f : List ℕ) → IsFront b f → IsFront (a ++ b) (a ++ f)
front_after a b f h = (h.0, append_assoc a f h.0 ∙ ap (λ x. a ++ x) h.1)

pub rose_later : (a b c : ℕ) → a ≤ b → Rose b c → Rose a c
rose_later a b c le rose = λ below. let higher : b < c = rose below in omega arith

-- the cause that a put gave was counted since before
falters : (cause : PutCause) (before mid now : SinkState) → SinkCounts before mid
    → IsCausedBy cause (Rose mid.faults now.faults) (Rose mid.shortages now.shortages) → Falters before now
falters Fault before mid now counts rose = inl (rose_later before.faults mid.faults now.faults counts.faults rose)
falters Memory before mid now counts rose = inr (rose_later before.shortages mid.shortages now.shortages counts.shortages rose)

-- behind `start` the sink had taken the front as this piece was begun, and the piece wasn't taken whole
told_part : (start : Option (List ℕ)) (before mid now : SinkState) (front piece line : List ℕ) (fault : PutFault)
    → SinkCounts before mid → mid.taken ≡ grown start front → now.taken ≡ grown mid.taken (take fault.written piece)
    → IsCausedBy fault.cause (Rose mid.faults now.faults) (Rose mid.shortages now.shortages)
    → IsFront line (front ++ take fault.written piece) → Told start before now line
told_part start before mid now front piece line fault counts had took cause is_front = record {
  front = front ++ take fault.written piece;
  is_front = is_front;
  taken = took ∙ ap (λ o. grown o (take fault.written piece)) had ∙ grown-grown start front (take fault.written piece);
  whole = inr (falters fault.cause before mid now counts cause);
}

-- the first of three pieces
pub told_first : (before now : SinkState) (a b c : List ℕ) (fault : PutFault) → SinkCounts before before
    → now.taken ≡ grown before.taken (take fault.written a)
    → IsCausedBy fault.cause (Rose before.faults now.faults) (Rose before.shortages now.shortages)
    → Told before.taken before now (a ++ b ++ c)
told_first before now a b c fault counts took cause =
    told_part before.taken before before now [] a (a ++ b ++ c) fault counts (sym (grown-nil before.taken)) took cause
    (front_within (a ++ b) c _ (front_within a b _ (front_of_put {T = ℕ} (Err fault) a)))

-- the second
pub told_second : (before mid now : SinkState) (a b c : List ℕ) (fault : PutFault) → SinkCounts before mid
    → mid.taken ≡ grown before.taken a → now.taken ≡ grown mid.taken (take fault.written b)
    → IsCausedBy fault.cause (Rose mid.faults now.faults) (Rose mid.shortages now.shortages)
    → Told before.taken before now (a ++ b ++ c)
told_second before mid now a b c fault counts had took cause =
    told_part before.taken before mid now a b (a ++ b ++ c) fault counts had took cause
    (front_within (a ++ b) c _ (front_after a b _ (front_of_put {T = ℕ} (Err fault) b)))

-- the third, taken whole or in part
pub told_third : {T : Type 0} (before mid late now : SinkState) (a b c : List ℕ) (r : Result T PutFault) → SinkCounts before late
    → mid.taken ≡ grown before.taken a → late.taken ≡ grown mid.taken b → now.taken ≡ grown late.taken (put_of r c)
    → IfErr r (λ fault. IsCausedBy fault.cause (Rose late.faults now.faults) (Rose late.shortages now.shortages))
    → Told before.taken before now (a ++ b ++ c)
told_third before mid late now a b c (Ok x) counts had then_had took cause = record {
  front = a ++ b ++ c;
  is_front = ([], append-nil (a ++ b ++ c));
  taken = took ∙ ap (λ o. grown o c) (then_had ∙ ap (λ o. grown o b) had ∙ grown-grown before.taken a b) ∙ grown-grown before.taken (a ++ b) c;
  whole = inl refl;
}
told_third before mid late now a b c (Err fault) counts had then_had took cause =
    told_part before.taken before late now (a ++ b) c (a ++ b ++ c) fault counts
    (then_had ∙ ap (λ o. grown o b) had ∙ grown-grown before.taken a b) took cause
    (front_after (a ++ b) c _ (front_of_put {T = ℕ} (Err fault) c))

-- the line of a refusal was told
pub plain_told : (said refusal : Refusal) (name : List ℕ) (before now now' : SinkState) (line : List ℕ) (status : ℕ) → refusal ≡ said → status ≡ status_of refusal
    → line ≡ line_of said name → now' ≡ now → Told before.taken before now line → IsTold refusal name before now' status
plain_told said refusal name before now now' line status is is_status is_line is_now told = record {
  said = said;
  is = inl (sym is);
  is_status = is_status ∙ ap status_of is;
  told = subst (λ n. Told before.taken before n (line_of said name)) (sym is_now) (subst (λ l. Told before.taken before now l) is_line told);
}

-- that of want of memory was, in its place
pub memory_told : (refusal : Refusal) (name : List ℕ) (before now : SinkState) (status : ℕ) → status ≡ 9 → Told before.taken before now (line_of Short name) → IsTold refusal name before now status
memory_told refusal name before now status is told = record { said = Short; is = inr refl; is_status = is; told = told }

-- a line that was made first
pub made_line : (shown text line : List ℕ) → shown ≡ text → text ≡ line → shown ++ [] ++ codes "\n" ≡ line ++ codes "\n"
made_line shown text line e f = ap (λ x. x ++ codes "\n") (append-nil shown ∙ e ∙ f)

-- The examples of a folder of two files.
use Rattle.std.proofs.Common.{◌≡◌, ◌≤◌, ℕ, List, [], ◌∷◌, ◌++◌, length, get_or, Option, None, Some, Result, Ok, Err, IfOk, IsErrOf, IsTrue, Vec, refl, sym, ap, subst, ◌∙◌, inl, inr, arith}
use Rattle.std.proofs.lemmas.Option.{none-some, same_Some}
use Rattle.std.specs.declared.alloc.Global.{Global}
use Rattle.affc_io.specs.Count.{raised}
use Rattle.affc_io.specs.Examples.{a, b, c, two, IsOrShort, AreThreeReads, AllBytesAreHeld, MissingIsNotHeld, LongIsPastTheLimit, AFrontIsLeft, CountsRiseToTheirEnd, StaysOnlyWhereTold}
use Rattle.affc_io.specs.Files.{IsLong}
use Rattle.affc_io.specs.Memory.{NamedFile, held_in}
use Rattle.affc_io.specs.Parts.{is_listed}
use Rattle.affc_io.specs.Reads.{Read, answer_of}
use Rattle.affc_io.specs.State.{Files}
use Rattle.affc_io.specs.declared.folder.ReadFault.{ReadFault}
use Rattle.affc_io.specs.declared.folder.ReadFault.TheVariants.{Failed, Missing, Long, Memory}
use Rattle.affc_io.specs.declared.folder.TheConstants.{LONGEST_READ}

as_long : (xs ys : List ℕ) → Some xs ≡ Some ys → length xs ≡ length ys
as_long xs ys e = ap length (same_Some xs ys e)

pub all_bytes_are_held : AllBytesAreHeld
all_bytes_are_held = (refl, refl, (λ e. let n : 2 ≡ 1 = as_long (7 ∷ 8 ∷ []) (7 ∷ []) e in absurd (omega (arith, n))), λ e. none-some [] e)

pub missing_is_not_held : MissingIsNotHeld
missing_is_not_held = (refl, (λ e. none-some [] (sym e)), (λ h. omega arith), λ h. let n = h (omega arith) in absurd (omega (arith, n)))

pub long_is_past_the_limit : LongIsPastTheLimit
long_is_past_the_limit = (
  (λ bytes h. (bytes, (refl, h))),
  (λ bytes e m. let n = as_long bytes m.0 m.1.0 in let l = m.1.1 in absurd (omega (arith, e, n, l))),
  (λ m. none-some m.0 m.1.0),
  (λ h. omega arith),
  λ h. let n = h (omega arith) in absurd (omega (arith, n)),
)

other_front : (front rest : List ℕ) → Some (7 ∷ 8 ∷ []) ≡ Some front → front ++ rest ≡ 1 ∷ 2 ∷ 3 ∷ [] → ⊥
other_front front rest e f =
    let n : 7 ≡ 1 = ap (λ xs. get_or (xs ++ rest) 0 0) (same_Some (7 ∷ 8 ∷ []) front e) ∙ ap (λ xs. get_or xs 0 0) f in
    absurd (omega (arith, n))

pub a_front_is_left : AFrontIsLeft
a_front_is_left = (
  inl (1 ∷ 2 ∷ [], (refl, (3 ∷ [], refl))),
  inl ([], (refl, (1 ∷ 2 ∷ 3 ∷ [], refl))),
  (λ l. elim l [
    | inl m ↦ other_front m.0 m.1.1.0 m.1.0 m.1.1.1
    | inr m ↦ none-some (7 ∷ 8 ∷ []) (sym m.1)
  ]),
  (λ l. elim l [
    | inl m ↦ none-some m.0 m.1.0
    | inr m ↦ none-some (7 ∷ 8 ∷ []) (sym m.0)
  ]),
  inr (refl, refl),
)

pub counts_rise_to_their_end : CountsRiseToTheirEnd
counts_rise_to_their_end = ((λ h. omega arith), (λ h. let n = h (omega arith) in absurd (omega (arith, n))), (λ h. let n = h (omega arith) in absurd (omega (arith, n))), λ h. absurd (omega (arith, h)))

pub stays_only_where_told : StaysOnlyWhereTold
stays_only_where_told = (refl, (λ e. absurd (omega (arith, e))), tt)

-- ---- Reads

-- what a read in memory answers of a name that holds this, by its number among the calls
pub record Answers (fails : List ℕ) (call : ℕ) (held : Option (List ℕ)) (answer : Result (Vec ℕ Global) ReadFault) : Type 0 where
  pub failed : IsErrOf answer Failed → IsTrue (is_listed fails call)
  pub listed : IsTrue (is_listed fails call) → IsErrOf answer Failed
  pub ok : IfOk answer (λ bytes. held ≡ Some bytes.items)
  pub missing : IsErrOf answer Missing → held ≡ None
  pub long : IsErrOf answer Long → IsLong held

not_listed : (fails : List ℕ) (call other : ℕ) → fails ≡ 1 ∷ [] → call ≡ other → ¬ (IsTrue (is_listed (1 ∷ []) other)) → ¬ (IsTrue (is_listed fails call))
not_listed fails call other f e not listed = not (subst (λ n. IsTrue (is_listed (1 ∷ []) n)) e (subst (λ l. IsTrue (is_listed l call)) f listed))

of_held : (fails : List ℕ) (call : ℕ) (held : Option (List ℕ)) (answer : Result (Vec ℕ Global) ReadFault) (text : List ℕ) → Answers fails call held answer → ¬ (IsTrue (is_listed fails call))
    → held ≡ Some text → length text ≤ LONGEST_READ → IsOrShort (Ok text) (answer_of answer)
of_held fails call held (Ok bytes) text r not is short = inl (ap Ok (sym (same_Some text bytes.items (sym is ∙ r.ok))))
of_held fails call held (Err Failed) text r not is short = absurd (not (r.failed refl))
of_held fails call held (Err Missing) text r not is short = absurd (none-some text (sym (r.missing refl) ∙ is))
of_held fails call held (Err Long) text r not is short =
    let l = r.long refl in let n = as_long text l.0 (sym is ∙ l.1.0) in let more = l.1.1 in absurd (omega (arith, n, more, short))
of_held fails call held (Err Memory) text r not is short = inr refl

of_none : (fails : List ℕ) (call : ℕ) (held : Option (List ℕ)) (answer : Result (Vec ℕ Global) ReadFault) → Answers fails call held answer → ¬ (IsTrue (is_listed fails call))
    → held ≡ None → IsOrShort (Err Missing) (answer_of answer)
of_none fails call held (Ok bytes) r not is = absurd (none-some bytes.items (sym is ∙ r.ok))
of_none fails call held (Err Failed) r not is = absurd (not (r.failed refl))
of_none fails call held (Err Missing) r not is = inl refl
of_none fails call held (Err Long) r not is = let l = r.long refl in absurd (none-some l.0 (sym is ∙ l.1.0))
of_none fails call held (Err Memory) r not is = inr refl

pub three_reads : (files₀ files₁ files₂ : List NamedFile) (fails₀ fails₁ fails₂ : List ℕ) (call₀ call₁ call₂ : ℕ) (reads₀ reads₁ reads₂ reads₃ : List Read) (x y z : Result (Vec ℕ Global) ReadFault)
    → Some (held_in files₀) ≡ Some two → files₁ ≡ files₀ → files₂ ≡ files₁ → fails₀ ≡ 1 ∷ [] → fails₁ ≡ fails₀ → fails₂ ≡ fails₁ → call₀ ≡ 0 → call₁ ≡ raised call₀ → call₂ ≡ raised call₁
    → Answers fails₀ call₀ (held_in files₀ a) x → Answers fails₁ call₁ (held_in files₁ b) y → Answers fails₂ call₂ (held_in files₂ c) z
    → reads₀ ≡ [] → reads₁ ≡ reads₀ ++ (a, answer_of x) ∷ [] → reads₂ ≡ reads₁ ++ (b, answer_of y) ∷ [] → reads₃ ≡ reads₂ ++ (c, answer_of z) ∷ []
    → AreThreeReads reads₃
three_reads files₀ files₁ files₂ fails₀ fails₁ fails₂ call₀ call₁ call₂ reads₀ reads₁ reads₂ reads₃ x y z has f₁ f₂ l₀ l₁ l₂ n₀ n₁ n₂ rx ry rz r₀ r₁ r₂ r₃ =
    let same : held_in files₀ ≡ two = same_Some (held_in files₀) two has in
    let one : call₁ ≡ 1 = n₁ ∙ ap raised n₀ in
    let second_fails : IsErrOf y Failed = ry.listed (subst (λ n. IsTrue (is_listed fails₁ n)) (sym one) (subst (λ l. IsTrue (is_listed l 1)) (sym (l₁ ∙ l₀)) refl)) in (
      answer_of x,
      answer_of z,
      (
        r₃ ∙ ap (λ l. l ++ (c, answer_of z) ∷ []) (r₂ ∙ (λ i. ((r₁ ∙ ap (λ l. l ++ (a, answer_of x) ∷ []) r₀) i) ++ (b, answer_of (second_fails i)) ∷ [])),
        (
          of_held fails₀ call₀ (held_in files₀ a) x (7 ∷ 8 ∷ []) rx (not_listed fails₀ call₀ 0 l₀ n₀ (λ e. absurd (cc))) (ap (λ g. g a) same) (omega arith),
          of_none fails₂ call₂ (held_in files₂ c) z rz (not_listed fails₂ call₂ 2 (l₂ ∙ l₁ ∙ l₀) (n₂ ∙ ap raised one) (λ e. absurd (cc))) (ap (λ l. held_in l c) (f₂ ∙ f₁) ∙ ap (λ g. g c) same),
        ),
      ),
    )

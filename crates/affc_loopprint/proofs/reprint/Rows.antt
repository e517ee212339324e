-- Tokens of a text in a row, and bounds on the tokens and the brackets of a part of a tree.
use Rattle.std.proofs.Common.{◌≡◌, ℕ, ◌+◌, ◌≤◌, Bool, true, false, max, List, [], ◌∷◌, ◌++◌, length, refl, sym, subst, arith, length-append}
use Rattle.affc_ast.specs.declared.tree.Op.{Op}
use Rattle.affc_ast.specs.declared.tree.Op.TheVariants as op
use Rattle.affc_ast.specs.declared.tree.Rel.{Rel}
use Rattle.affc_ast.specs.declared.tree.Rel.TheVariants.{Less, LessEqual, Greater, GreaterEqual, Equal, NotEqual}
use Rattle.std.specs.Prelude.{Option, Some, None}
use Rattle.affc_grammar.specs.Grammar.{Name, Digits, Symbol, word, number, mark, rel_mark, op_mark, shift_mark, assign_mark}
use Rattle.affc_grammar.specs.Limits.{count_run, count_open, is_separator, is_opening, is_closing}
use Rattle.affc_wellnamed.specs.declared.shape.Extent.{Extent}
use Rattle.affc_wellnamed.specs.Shape.{beside, and_tokens, bracketed, bracketed_if}
use Rattle.affc_wellnamed.proofs.Counts.{Adds, Rises, adds_both, rises_both, none_added, none_risen, run_more, NoBracket, rises_more, rises_within, AreBrackets}
use Rattle.affc_wellnamed.proofs.ShapeParts.{larger_is}

-- ---- Tokens without `;` `{` `}` and line ends, whose brackets close

pub record Lies (deep : ℕ) (ss : List Symbol) : Type 0 where
  pub run : Adds count_run (length ss) ss
  pub brackets : Rises count_open deep ss

-- one of them
pub record IsInRow (s : Symbol) : Type 0 where
  pub separator : is_separator s ≡ false
  pub bracket : NoBracket s

pub lies_none : Lies 0 []
lies_none = record { run = none_added count_run; brackets = none_risen count_open }

pub lies_more : (deep : ℕ) (s : Symbol) (ss : List Symbol) → IsInRow s → Lies deep ss → Lies deep (s ∷ ss)
lies_more deep s ss p r =
    let e : 1 + length ss ≡ length (s ∷ ss) = omega arith in
    record { run = subst (λ n. Adds count_run n (s ∷ ss)) e (run_more (length ss) s ss p.separator r.run); brackets = rises_more deep s ss p.bracket r.brackets }

pub lies_both : (d e : ℕ) (xs ys : List Symbol) → Lies d xs → Lies e ys → Lies (max d e) (xs ++ ys)
lies_both d e xs ys p q = record {
  run = subst (λ n. Adds count_run n (xs ++ ys)) (sym (length-append xs ys)) (adds_both count_run (length xs) (length ys) xs ys p.run q.run);
  brackets = rises_both count_open d e xs ys p.brackets q.brackets;
}

-- with a token between
pub lies_joined : (d e : ℕ) (xs : List Symbol) (s : Symbol) (ys : List Symbol) → IsInRow s → Lies d xs → Lies e ys → Lies (max d e) (xs ++ s ∷ ys)
lies_joined d e xs s ys h p q = lies_both d e xs (s ∷ ys) p (lies_more e s ys h q)

pub lies_within : (d : ℕ) (first last : Symbol) (ss : List Symbol) → AreBrackets first last → Lies d ss → Lies (d + 1) (first ∷ (ss ++ last ∷ []))
lies_within d first last ss b r =
    let l = length-append ss (last ∷ []) in
    let e : 1 + (length ss + (1 + 0)) ≡ length (first ∷ (ss ++ last ∷ [])) = omega (arith, l) in
    record {
      run = subst (λ n. Adds count_run n (first ∷ (ss ++ last ∷ []))) e
          (run_more _ first (ss ++ last ∷ []) b.open_run (adds_both count_run (length ss) (1 + 0) ss (last ∷ []) r.run (run_more 0 last [] b.close_run (none_added count_run))));
      brackets = rises_within d first last ss b.opens b.closes b.no_opening r.brackets;
    }

-- ---- Tokens

pub word_lies : (w : Name) → IsInRow (word w)
word_lies w = record { separator = refl; bracket = record { opening = refl; closing = refl } }

pub number_lies : (digits : Digits) → IsInRow (number digits)
number_lies digits = record { separator = refl; bracket = record { opening = refl; closing = refl } }

pub mark_lies : (bytes : List ℕ) → is_separator (mark bytes) ≡ false → is_opening (mark bytes) ≡ false → is_closing (mark bytes) ≡ false → IsInRow (mark bytes)
mark_lies bytes a b c = record { separator = a; bracket = record { opening = b; closing = c } }

pub rel_lies : (rel : Rel) → IsInRow (mark (rel_mark rel))
rel_lies Less = mark_lies _ refl refl refl
rel_lies LessEqual = mark_lies _ refl refl refl
rel_lies Greater = mark_lies _ refl refl refl
rel_lies GreaterEqual = mark_lies _ refl refl refl
rel_lies Equal = mark_lies _ refl refl refl
rel_lies NotEqual = mark_lies _ refl refl refl

pub op_lies : (o : Op) → IsInRow (mark (op_mark o))
op_lies op.Mul = mark_lies _ refl refl refl
op_lies op.Add = mark_lies _ refl refl refl
op_lies op.Sub = mark_lies _ refl refl refl
op_lies op.And = mark_lies _ refl refl refl
op_lies op.Xor = mark_lies _ refl refl refl
op_lies op.Or = mark_lies _ refl refl refl

pub shift_lies : (left : Bool) → IsInRow (mark (shift_mark left))
shift_lies true = mark_lies _ refl refl refl
shift_lies false = mark_lies _ refl refl refl

pub assign_lies : (o : Option Op) → IsInRow (mark (assign_mark o))
assign_lies None = mark_lies _ refl refl refl
assign_lies (Some op.Mul) = mark_lies _ refl refl refl
assign_lies (Some op.Add) = mark_lies _ refl refl refl
assign_lies (Some op.Sub) = mark_lies _ refl refl refl
assign_lies (Some op.And) = mark_lies _ refl refl refl
assign_lies (Some op.Xor) = mark_lies _ refl refl refl
assign_lies (Some op.Or) = mark_lies _ refl refl refl

-- ---- Bounds

-- with `spare` more still at most so many tokens, and at most so many brackets open at once
pub record Under (spare tokens depth : ℕ) (e : Extent) : Type 0 where
  pub few : e.tokens + spare ≤ tokens
  pub shallow : e.depth ≤ depth

pub under_more : (s t d s' t' d' : ℕ) (e : Extent) → t + s' ≤ t' + s → d ≤ d' → Under s t d e → Under s' t' d' e
under_more s t d s' t' d' e h k u = let a = u.few in let b = u.shallow in record { few = omega (arith, h, a); shallow = omega (arith, k, b) }

pub under_both : (s t d s' t' d' : ℕ) (a b : Extent) → Under s t d a → Under s' t' d' b → Under (s + s') (t + t') (max d d') (beside a b)
under_both s t d s' t' d' a b p q =
    let f = p.few in let g = q.few in let h = p.shallow in let i = q.shallow in let l = larger_is a.depth b.depth in
    record { few = omega (arith, f, g); shallow = omega (arith, h, i, l) }

pub under_tokens : (n s t d : ℕ) (e : Extent) → Under s t d e → Under s (t + n) d (and_tokens n e)
under_tokens n s t d e u = let a = u.few in record { few = omega (arith, a); shallow = u.shallow }

pub under_brackets : (s t d : ℕ) (e : Extent) → Under s t d e → Under s (t + 2) (d + 1) (bracketed e)
under_brackets s t d e u = let a = u.few in let b = u.shallow in record { few = omega (arith, a); shallow = omega (arith, b) }

pub under_brackets_if : (b : Bool) (s t d : ℕ) (e : Extent) → Under s t d e → Under s (t + 2) (d + 1) (bracketed_if b e)
under_brackets_if true s t d e u = under_brackets s t d e u
under_brackets_if false s t d e u = let a = u.few in let c = u.shallow in record { few = omega (arith, a); shallow = omega (arith, c) }

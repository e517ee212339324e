-- The bases of folds, one after the other.
use Rattle.std.proofs.Common.{◌≡◌, ℕ, ◌+◌, ◌<◌, List, [], ◌∷◌, ◌++◌, length, map, take, drop, get_or, All, Some, sym, ap, ◌∙◌, subst, arith}
use Rattle.std.proofs.lemmas.List.{take_more, map-append, take-append-drop}
use Rattle.std.proofs.lemmas.List.Elements.{All-cons}
use Rattle.affc_rows.specs.Forms.{Affine}
use Rattle.affc_ast.specs.declared.tree.ArrayId.{ArrayId}
use Rattle.affc_basis.specs.declared.basis.Basis.{Basis}
use Rattle.affc_basis.specs.Bases.{AreComponents, IsFirstBroken}
use Rattle.affc_schedtext.specs.declared.draft.LineDraft as code
use Rattle.affc_schedtext.specs.declared.outline.Outline.{Outline}
use Rattle.affc_schedtext.specs.Outline.{array_of}
use Rattle.affc_schedtext.specs.Draft.{LineDraft}
use Rattle.affc_schedtext.specs.Rules.{fold_sides, there_forms, back_forms}
use Rattle.affc_schedtext.specs.Answers.{AreBasesOfLines, IsBasis, LosesSubscript}
use Rattle.affc_schedtext.specs.Seen.{line_seen}
use Rattle.affc_schedtext.proofs.Walks.{front}
use Rattle.affc_plan.specs.Folds.{AreRightFolds}
use Rattle.affc_plan.specs.Maps.{IsRightFold, IsBasisOfLine}

pub right_here : (o : Outline) (ls : List code.LineDraft) (i : ℕ) (l : code.LineDraft) → i < length ls → l ≡ get_or ls i l → AreRightFolds o (drop i ls) → IsRightFold o (line_seen l) × AreRightFolds o (drop (i + 1) ls)
right_here o ls i l lt e h = subst (AreRightFolds o) (front ls i l lt e) h

more_bases : (o : Outline) (ls : List LineDraft) (fs : List (ArrayId × Basis)) (l : LineDraft) (f : ArrayId × Basis) → AreBasesOfLines o ls fs → array_of o l.name ≡ Some f.0.0 → IsBasisOfLine (fold_sides o l) f.1 → AreBasesOfLines o (ls ++ l ∷ []) (fs ++ f ∷ [])
more_bases o [] [] l f h e b = (e, b.rows, b.inverse, tt)
more_bases o [] (g ∷ fs) l f h e b = absurd h
more_bases o (k ∷ ls) [] l f h e b = absurd h
more_bases o (k ∷ ls) (g ∷ fs) l f h e b = (h.0, h.1, h.2, more_bases o ls fs l f h.3 e b)

pub lines_more : (ls : List code.LineDraft) (i : ℕ) (l : code.LineDraft) → i < length ls → l ≡ get_or ls i l → map line_seen (take (i + 1) ls) ≡ map line_seen (take i ls) ++ line_seen l ∷ []
lines_more ls i l lt e =
    ap (map line_seen) (take_more ls i l lt ∙ ap (λ x. take i ls ++ x ∷ []) (sym e)) ∙ map-append line_seen (take i ls) (l ∷ [])

pub bases_on : (o : Outline) (ls : List code.LineDraft) (i : ℕ) (l : code.LineDraft) (fs : List (ArrayId × Basis)) (f : ArrayId × Basis) → i < length ls → l ≡ get_or ls i l → AreBasesOfLines o (map line_seen (take i ls)) fs
    → array_of o (line_seen l).name ≡ Some f.0.0 → IsBasisOfLine (fold_sides o (line_seen l)) f.1 → AreBasesOfLines o (map line_seen (take (i + 1) ls)) (fs ++ f ∷ [])
bases_on o ls i l fs f lt e h a b = subst (λ xs. AreBasesOfLines o xs (fs ++ f ∷ [])) (sym (lines_more ls i l lt e)) (more_bases o (map line_seen (take i ls)) fs (line_seen l) f h a b)

are_components : (b : Basis) (rows inverse : List Affine) → b.rows ≡ rows → b.inverse ≡ inverse → AreComponents rows inverse
are_components b rows inverse e q = subst (λ f. AreComponents f inverse) e (subst (λ g. AreComponents b.rows g) q b.identity)

all_bases : (o : Outline) (ls : List LineDraft) (fs : List (ArrayId × Basis)) → AreBasesOfLines o ls fs → All (λ l. IsBasis (fold_sides o l)) ls
all_bases o [] fs h = λ k d lt. absurd (omega (arith, lt))
all_bases o (l ∷ ls) [] h = absurd h
all_bases o (l ∷ ls) (f ∷ fs) h = All-cons (λ x. IsBasis (fold_sides o x)) l ls (are_components f.1 (there_forms (fold_sides o l)) (back_forms (fold_sides o l)) h.1 h.2) (all_bases o ls fs h.3)

pub split_at : (ls : List code.LineDraft) (i : ℕ) (l : code.LineDraft) → i < length ls → l ≡ get_or ls i l → map line_seen ls ≡ map line_seen (take i ls) ++ line_seen l ∷ map line_seen (drop (i + 1) ls)
split_at ls i l lt e =
    ap (map line_seen) (sym (take-append-drop i ls)) ∙ map-append line_seen (take i ls) (drop i ls) ∙ ap (λ r. map line_seen (take i ls) ++ map line_seen r) (front ls i l lt e)

pub loses : (o : Outline) (ls : List code.LineDraft) (i : ℕ) (l : code.LineDraft) (fs : List (ArrayId × Basis)) (array : ArrayId) (k : ℕ) → i < length ls → l ≡ get_or ls i l → AreBasesOfLines o (map line_seen (take i ls)) fs
    → array_of o (line_seen l).name ≡ Some array.0 → IsFirstBroken (there_forms (fold_sides o (line_seen l))) (back_forms (fold_sides o (line_seen l))) k → LosesSubscript o (map line_seen ls) array.0 k
loses o ls i l fs array k lt e h a b = record {
  front = map line_seen (take i ls);
  line = line_seen l;
  others = map line_seen (drop (i + 1) ls);
  split = split_at ls i l lt e;
  before = all_bases o (map line_seen (take i ls)) fs h;
  its_array = a;
  broken = b;
}

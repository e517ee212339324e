-- Cuts in a box, where all rows below which they stand are the system's.
use Rattle.std.proofs.Common.{◌≡◌, ℕ, ◌+◌, List, [], ◌∷◌, ◌++◌, length, ℤ, sym, ap, subst, ◌∙◌, Result, Ok, Err, IfOk}
use Rattle.std.specs.declared.alloc.AllocError.{AllocError}
use Rattle.std.proofs.lemmas.List.Elements.{All-push}
use Rattle.affc_rows.specs.Forms.{Affine}
use Rattle.affc_system.specs.Systems.{Rows, IsPoint, Meets}
use Rattle.affc_farkas.specs.declared.proof.Proof.{Proof, Leaf, Cut', Split'}
use Rattle.affc_simplex.specs.declared.bounds.Bound.{Bound}
use Rattle.affc_leaf.specs.Bounds.{Inside}
use Rattle.affc_leaf.specs.Parts.{IsEmpty, IsLeast}
use Rattle.affc_leaf.specs.Cuts.{IsCutBefore}
use Rattle.affc_leaf.specs.BoxCuts.{IsBoxCut, IsSeen, IsSeenBehind}
use Rattle.affc_leaf.specs.declared.box_cuts.Seen.{Seen}
use Rattle.affc_leaf.specs.declared.box_cuts.Seen.TheVariants.{Empty, Point, Nothing}
use Rattle.affc_leaf.proofs.Divisions.{with_cut, fewer_meets, cut_placed}

cut_point : (system : Rows) (bs : List Bound) (by : List (ℕ × ℕ)) (g : ℤ) (cut : Affine) (x : List ℤ) → IsBoxCut system bs by g cut → Inside bs x → IsPoint system x
    → IsPoint (with_cut system cut) x
cut_point system bs by g cut x c inside p = record {
  width = p.width;
  meets = All-push (Meets x) system.rows cut p.meets (c.meets x inside p);
}

-- the least point is the same
box_cut_least : (system : Rows) (bs : List Bound) (by : List (ℕ × ℕ)) (g : ℤ) (cut : Affine) (x : List ℤ) → IsBoxCut system bs by g cut → IsLeast (with_cut system cut) bs x
    → IsLeast system bs x
box_cut_least system bs by g cut x c a = record {
  inside = a.inside;
  meets = fewer_meets system cut x a.meets;
  least = λ z p q. a.least z p (cut_point system bs by g cut z c p q);
}

box_cut_empty : (system : Rows) (bs : List Bound) (next : ℕ) (by : List (ℕ × ℕ)) (g : ℤ) (cut : Affine) (rest q : Proof) → IsBoxCut system bs by g cut → next ≡ length system.rows
    → IsEmpty (with_cut system cut) bs (next + 1) rest → IsCutBefore by g cut rest q → IsEmpty system bs next q
box_cut_empty system bs next by g cut rest (Leaf m) c n a b = absurd b
box_cut_empty system bs next by g cut rest (Split' form at p low u high) c n a b = absurd b
box_cut_empty system bs next by g cut rest (Cut' m h row p after) c n a b =
    let whole : Proof = Cut' by g cut p rest in
    let same : Cut' m h row p after ≡ whole =
    ap (λ m. Cut' m h row p after) b.0 ∙ ap (λ m. Cut' by m row p after) b.1 ∙ ap (λ m. Cut' by g m p after) b.2 ∙ ap (λ m. Cut' by g cut p m) b.3 in
    subst (λ w. IsEmpty system bs next w) (sym same) (record {
      none = λ x inside point. a.none x inside (cut_point system bs by g cut x c inside point);
      valid = λ rows placed. (c.cuts next rows placed, a.valid (rows ++ cut ∷ []) (cut_placed system rows next bs cut placed n c.fit));
      plain = a.plain;
    })

pub seen_behind : (system after : Rows) (bs : List Bound) (next : ℕ) (by : List (ℕ × ℕ)) (g : ℤ) (cut : Affine) (f : Seen) (r : Result Seen AllocError) → IsBoxCut system bs by g cut
    → after ≡ with_cut system cut → next ≡ length system.rows → IsSeen after bs (next + 1) f → IfOk r (IsSeenBehind by g cut f) → IfOk r (IsSeen system bs next)
seen_behind system after bs next by g cut f (Err e) c w n a b = tt
seen_behind system after bs next by g cut Nothing (Ok s) c w n a b = subst (λ s. IsSeen system bs next s) (sym b) tt
seen_behind system after bs next by g cut (Point x) (Ok s) c w n a b =
    subst (λ s. IsSeen system bs next s) (sym b) (box_cut_least system bs by g cut x.items c (subst (λ s. IsLeast s bs x.items) w a))
seen_behind system after bs next by g cut (Empty p) (Ok Nothing) c w n a b = absurd b
seen_behind system after bs next by g cut (Empty p) (Ok (Point x)) c w n a b = absurd b
seen_behind system after bs next by g cut (Empty p) (Ok (Empty q)) c w n a b =
    box_cut_empty system bs next by g cut p.value q.value c n (subst (λ s. IsEmpty s bs (next + 1) p.value) w a) b

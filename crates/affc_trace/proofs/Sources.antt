-- What the source of a load is, by the order of the trace alone.
use Rattle.std.proofs.Common.{◌≡◌, Bool, List, ◌∷◌, ◌++◌, Option, Some, None, refl, sym, ap, subst, inl, inr}
use Rattle.std.specs.Bool.{Decides}
use Rattle.affc_ast.specs.Trace.{trace}
use Rattle.affc_trace.specs.Law.{Effect, last_store, IsIn}
use Rattle.affc_trace.specs.Orders.{Earlier, AreDistinct, IsSource}
use Rattle.affc_trace.specs.Effects.{effect}
use Rattle.affc_trace.specs.Dataflow.{same_element}
use Rattle.affc_trace.specs.Laws.{SourceInItsOwnWords}
use Rattle.affc_trace.proofs.Legality.{IsLast, is_last, later_is_in, one_way, in_front, in_rest, from_front, still_earlier, split_at}
use Rattle.affc_trace.proofs.Once.{once}
use Rattle.affc_trace.proofs.Targets.{same_element_decides}

module _ {I X V : Type 0} (effect : I → Effect X V) (same : X → X → Bool) (decides : (x y : X) → Decides (same x y) (x ≡ y))
    (trace : List I) (distinct : AreDistinct trace) (b : I) (x : X) where
  -- w stores x before b, and nothing between them does
  pub by_order : (w : I) → Earlier trace w b → x ≡ (effect w).stores → ((v : I) → x ≡ (effect v).stores → Earlier trace w v → Earlier trace v b → ⊥) → IsSource effect same trace b x (Some w)
  by_order w h s none =
      let r = split_at trace b (later_is_in trace w b h) in
      (r.0, r.1, r.2, found r.0 r.1 r.2 (last_store same effect r.0 x) (is_last effect same decides r.0 x))
    where
      found : (done rest : List I) → trace ≡ done ++ b ∷ rest → (l : Option I) → IsLast effect same decides done x l → l ≡ Some w
      found done rest e None p = absurd (p w (in_front done rest w b (subst AreDistinct e distinct) (subst (λ is. Earlier is w b) e h)) s)
      found done rest e (Some c) p = elim (p.2 w (in_front done rest w b (subst AreDistinct e distinct) (subst (λ is. Earlier is w b) e h)) s) [
        | inl q ↦ ap Some (sym q)
        | inr q ↦ absurd (none c p.1 (subst (λ is. Earlier is w c) (sym e) (still_earlier done (b ∷ rest) w c q)) (subst (λ is. Earlier is c b) (sym e) (from_front done rest c b p.0)))
      ]

  -- nothing before b stores x
  pub by_none : IsIn b trace → ((v : I) → x ≡ (effect v).stores → Earlier trace v b → ⊥) → IsSource effect same trace b x None
  by_none i none =
      let r = split_at trace b i in
      (r.0, r.1, r.2, found r.0 r.1 r.2 (last_store same effect r.0 x) (is_last effect same decides r.0 x))
    where
      found : (done rest : List I) → trace ≡ done ++ b ∷ rest → (l : Option I) → IsLast effect same decides done x l → l ≡ None
      found done rest e None p = refl
      found done rest e (Some c) p = absurd (none c p.1 (subst (λ is. Earlier is c b) (sym e) (from_front done rest c b p.0)))

  -- and the other way round
  pub source_is_last : (w : I) → IsSource effect same trace b x (Some w)
      → Earlier trace w b × (x ≡ (effect w).stores) × ((v : I) → x ≡ (effect v).stores → Earlier trace w v → Earlier trace v b → ⊥)
  source_is_last w s = said s.0 s.1 s.2 (subst (IsLast effect same decides s.0 x) s.3 (is_last effect same decides s.0 x))
    where
      said : (done rest : List I) → trace ≡ done ++ b ∷ rest → IsLast effect same decides done x (Some w)
          → Earlier trace w b × (x ≡ (effect w).stores) × ((v : I) → x ≡ (effect v).stores → Earlier trace w v → Earlier trace v b → ⊥)
      said done rest e p = (
        subst (λ is. Earlier is w b) (sym e) (from_front done rest w b p.0),
        p.1,
        λ v stored after before. elim (p.2 v (in_front done rest v b (subst AreDistinct e distinct) (subst (λ is. Earlier is v b) e before)) stored) [
          | inl q ↦ one_way trace w v distinct after (subst (λ u. Earlier trace u w) (sym q) (subst (λ u. Earlier trace w u) q after))
          | inr q ↦ one_way trace w v distinct after (subst (λ is. Earlier is v w) (sym e) (still_earlier done (b ∷ rest) v w q))
        ],
      )

  pub source_is_none : IsSource effect same trace b x None → IsIn b trace × ((v : I) → x ≡ (effect v).stores → Earlier trace v b → ⊥)
  source_is_none s = (
    subst (IsIn b) (sym s.2) (in_rest s.0 s.1 b),
    λ v stored before.
        (subst (IsLast effect same decides s.0 x) s.3 (is_last effect same decides s.0 x)) v (in_front s.0 s.1 v b (subst AreDistinct s.2 distinct) (subst (λ is. Earlier is v b) s.2 before)) stored,
  )

pub source_in_its_own_words : SourceInItsOwnWords
source_in_its_own_words program p b x = (
  λ w. (
    λ s. (let r = source_is_last (effect program p) same_element same_element_decides (trace program p) (once program p) b x w s in record { earlier = r.0; stores = r.1; none_between = r.2 }),
    λ l. by_order (effect program p) same_element same_element_decides (trace program p) (once program p) b x w l.earlier l.stores l.none_between,
  ),
  (
    λ s. (let r = source_is_none (effect program p) same_element same_element_decides (trace program p) (once program p) b x s in record { stands = r.0; none = r.1 }),
    λ n. by_none (effect program p) same_element same_element_decides (trace program p) (once program p) b x n.stands n.none,
  ),
)

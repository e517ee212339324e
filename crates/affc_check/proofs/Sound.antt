-- Each item of a valid certificate holds.
use Rattle.std.proofs.Common.{List, [], ◌∷◌, sym, subst, inl, inr}
use Rattle.affc_system.specs.Systems.{IsPoint, HasNoPoint}
use Rattle.affc_farkas.specs.declared.proof.Proof.{Proof}
use Rattle.affc_farkas.proofs.Sound.{sound_system}
use Rattle.affc_trace.specs.Law.{IsIn}
use Rattle.affc_check.specs.list.Items.{Item, Question, Shown}
use Rattle.affc_check.specs.Valid.{AreValid}

-- a question has no point, and a point that is shown is one
abbrev pub Holds : Item → Type 0
Holds (Question system) = HasNoPoint system
Holds (Shown system point) = IsPoint system point

pub each_holds : (is : List Item) (proofs : List Proof) → AreValid is proofs → (i : Item) → IsIn i is → Holds i
each_holds [] proofs v i there = absurd there
each_holds (Shown system point ∷ is) proofs v i (inl e) = subst Holds (sym e) v.0
each_holds (Shown system point ∷ is) proofs v i (inr there) = each_holds is proofs v.1 i there
each_holds (Question system ∷ is) [] v i there = absurd v
each_holds (Question system ∷ is) (proof ∷ proofs) v i (inl e) = subst Holds (sym e) (sound_system system proof v.0.rows v.0.valid)
each_holds (Question system ∷ is) (proof ∷ proofs) v i (inr there) = each_holds is proofs v.1 i there

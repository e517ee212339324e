-- Instances that have a time.
use Rattle.std.specs.Prelude.{◌≡◌, ℕ, ◌+◌, ◌≤◌, ℤ, IsTrue, List, length, Some, slice_get}
use Rattle.affc_rows.specs.Forms.{HaveColumns}
use Rattle.affc_ast.specs.declared.tree.Instance.{Instance}
use Rattle.affc_trace.specs.declared.schedule.TimeMap.{TimeMap}
use Rattle.affc_trace.specs.Target.{all_slight}

-- the statement's time map: so many slight forms, over the parameters and the instance's iterators, which are few
pub record IsTimed (length_of_time : ℕ) (maps : List TimeMap) (p : List ℤ) (i : Instance) : Type 0 where
  pub time_map : TimeMap
  pub there : slice_get maps i.statement ≡ Some time_map
  pub components : length time_map.forms ≡ length_of_time
  pub columns : HaveColumns (length p + length i.iterators) time_map.forms
  pub slight : IsTrue (all_slight time_map.forms)
  pub few : length p + length i.iterators ≤ 16

-- two of them, with times of one length
pub record AreBothTimed (maps : List TimeMap) (p : List ℤ) (a b : Instance) : Type 0 where
  pub length_of_time : ℕ
  pub first : IsTimed length_of_time maps p a
  pub second : IsTimed length_of_time maps p b

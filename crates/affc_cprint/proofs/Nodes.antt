-- A function by one step, at a node whose parts are seen behind references.
use Rattle.std.proofs.Common.{◌≡◌, ℕ, ℤ, Bool, refl, sym, ap, ◌∙◌}
use denote.Hole.Carrier.{hidden}
use Rattle.affc_ast.specs.declared.tree.Ix.{Ix}
use Rattle.affc_ast.specs.declared.tree.Ix.TheVariants.{Neg, Add, Sub, Mul, Min, Max, Mod, Floord, Ceild}
use Rattle.affc_ast.specs.declared.tree.Ix.TheBlock.{shape-the_row-Ix-0, hidden-the_row-Ix-0}
use Rattle.affc_ast.specs.declared.tree.Ix.TheOpen as layer
use Rattle.affc_ast.specs.declared.tree.Ix.TheOpen.{Ix-F}
use Rattle.affc_ast.specs.declared.tree.Op.{Op}
use Rattle.affc_ast.specs.declared.tree.Val.{Val}
use Rattle.affc_ast.specs.declared.tree.Val.TheVariants.{Not, Bin, Shift}
use Rattle.affc_ast.specs.declared.tree.Val.TheBlock.{shape-the_row-Val-0, hidden-the_row-Val-0}
use Rattle.affc_ast.specs.declared.tree.Val.TheOpen as value_layer
use Rattle.affc_ast.specs.declared.tree.Val.TheOpen.{Val-F}
use Rattle.affc_ast.specs.Recursion.{by_ix, by_val}

pub neg_here : {A : Type 0} (f : Ix-F A → A) (a : Ix) → by_ix f (Neg a) ≡ f (layer.Neg (by_ix f a))
unfolding shape-the_row-Ix-0 hidden-the_row-Ix-0 hidden
neg_here f a = refl

pub neg_is : {A : Type 0} (f : Ix-F A → A) (e a x : Ix) → e ≡ Neg a → x ≡ a → by_ix f e ≡ f (layer.Neg (by_ix f x))
neg_is f e a x is p = ap (by_ix f) is ∙ neg_here f a ∙ ap (λ z. f (layer.Neg (by_ix f z))) (sym p)

pub add_here : {A : Type 0} (f : Ix-F A → A) (a b : Ix) → by_ix f (Add a b) ≡ f (layer.Add (by_ix f a) (by_ix f b))
unfolding shape-the_row-Ix-0 hidden-the_row-Ix-0 hidden
add_here f a b = refl

pub add_is : {A : Type 0} (f : Ix-F A → A) (e a b x y : Ix) → e ≡ Add a b → x ≡ a → y ≡ b → by_ix f e ≡ f (layer.Add (by_ix f x) (by_ix f y))
add_is f e a b x y is p q = ap (by_ix f) is ∙ add_here f a b ∙ ap (λ z. f (layer.Add (by_ix f z) (by_ix f b))) (sym p) ∙ ap (λ z. f (layer.Add (by_ix f x) (by_ix f z))) (sym q)

pub sub_here : {A : Type 0} (f : Ix-F A → A) (a b : Ix) → by_ix f (Sub a b) ≡ f (layer.Sub (by_ix f a) (by_ix f b))
unfolding shape-the_row-Ix-0 hidden-the_row-Ix-0 hidden
sub_here f a b = refl

pub sub_is : {A : Type 0} (f : Ix-F A → A) (e a b x y : Ix) → e ≡ Sub a b → x ≡ a → y ≡ b → by_ix f e ≡ f (layer.Sub (by_ix f x) (by_ix f y))
sub_is f e a b x y is p q = ap (by_ix f) is ∙ sub_here f a b ∙ ap (λ z. f (layer.Sub (by_ix f z) (by_ix f b))) (sym p) ∙ ap (λ z. f (layer.Sub (by_ix f x) (by_ix f z))) (sym q)

pub mul_here : {A : Type 0} (f : Ix-F A → A) (a b : Ix) → by_ix f (Mul a b) ≡ f (layer.Mul (by_ix f a) (by_ix f b))
unfolding shape-the_row-Ix-0 hidden-the_row-Ix-0 hidden
mul_here f a b = refl

pub mul_is : {A : Type 0} (f : Ix-F A → A) (e a b x y : Ix) → e ≡ Mul a b → x ≡ a → y ≡ b → by_ix f e ≡ f (layer.Mul (by_ix f x) (by_ix f y))
mul_is f e a b x y is p q = ap (by_ix f) is ∙ mul_here f a b ∙ ap (λ z. f (layer.Mul (by_ix f z) (by_ix f b))) (sym p) ∙ ap (λ z. f (layer.Mul (by_ix f x) (by_ix f z))) (sym q)

pub min_here : {A : Type 0} (f : Ix-F A → A) (a b : Ix) → by_ix f (Min a b) ≡ f (layer.Min (by_ix f a) (by_ix f b))
unfolding shape-the_row-Ix-0 hidden-the_row-Ix-0 hidden
min_here f a b = refl

pub min_is : {A : Type 0} (f : Ix-F A → A) (e a b x y : Ix) → e ≡ Min a b → x ≡ a → y ≡ b → by_ix f e ≡ f (layer.Min (by_ix f x) (by_ix f y))
min_is f e a b x y is p q = ap (by_ix f) is ∙ min_here f a b ∙ ap (λ z. f (layer.Min (by_ix f z) (by_ix f b))) (sym p) ∙ ap (λ z. f (layer.Min (by_ix f x) (by_ix f z))) (sym q)

pub max_here : {A : Type 0} (f : Ix-F A → A) (a b : Ix) → by_ix f (Max a b) ≡ f (layer.Max (by_ix f a) (by_ix f b))
unfolding shape-the_row-Ix-0 hidden-the_row-Ix-0 hidden
max_here f a b = refl

pub max_is : {A : Type 0} (f : Ix-F A → A) (e a b x y : Ix) → e ≡ Max a b → x ≡ a → y ≡ b → by_ix f e ≡ f (layer.Max (by_ix f x) (by_ix f y))
max_is f e a b x y is p q = ap (by_ix f) is ∙ max_here f a b ∙ ap (λ z. f (layer.Max (by_ix f z) (by_ix f b))) (sym p) ∙ ap (λ z. f (layer.Max (by_ix f x) (by_ix f z))) (sym q)

pub mod_here : {A : Type 0} (f : Ix-F A → A) (a b : Ix) → by_ix f (Mod a b) ≡ f (layer.Mod (by_ix f a) (by_ix f b))
unfolding shape-the_row-Ix-0 hidden-the_row-Ix-0 hidden
mod_here f a b = refl

pub mod_is : {A : Type 0} (f : Ix-F A → A) (e a b x y : Ix) → e ≡ Mod a b → x ≡ a → y ≡ b → by_ix f e ≡ f (layer.Mod (by_ix f x) (by_ix f y))
mod_is f e a b x y is p q = ap (by_ix f) is ∙ mod_here f a b ∙ ap (λ z. f (layer.Mod (by_ix f z) (by_ix f b))) (sym p) ∙ ap (λ z. f (layer.Mod (by_ix f x) (by_ix f z))) (sym q)

pub floord_here : {A : Type 0} (f : Ix-F A → A) (a : Ix) (n : ℤ) → by_ix f (Floord a n) ≡ f (layer.Floord (by_ix f a) n)
unfolding shape-the_row-Ix-0 hidden-the_row-Ix-0 hidden
floord_here f a n = refl

pub floord_is : {A : Type 0} (f : Ix-F A → A) (e a x : Ix) (n : ℤ) → e ≡ Floord a n → x ≡ a → by_ix f e ≡ f (layer.Floord (by_ix f x) n)
floord_is f e a x n is p = ap (by_ix f) is ∙ floord_here f a n ∙ ap (λ z. f (layer.Floord (by_ix f z) n)) (sym p)

pub ceild_here : {A : Type 0} (f : Ix-F A → A) (a : Ix) (n : ℤ) → by_ix f (Ceild a n) ≡ f (layer.Ceild (by_ix f a) n)
unfolding shape-the_row-Ix-0 hidden-the_row-Ix-0 hidden
ceild_here f a n = refl

pub ceild_is : {A : Type 0} (f : Ix-F A → A) (e a x : Ix) (n : ℤ) → e ≡ Ceild a n → x ≡ a → by_ix f e ≡ f (layer.Ceild (by_ix f x) n)
ceild_is f e a x n is p = ap (by_ix f) is ∙ ceild_here f a n ∙ ap (λ z. f (layer.Ceild (by_ix f z) n)) (sym p)

-- ---- Values

not_here : {A : Type 0} (f : Val-F A → A) (a : Val) → by_val f (Not a) ≡ f (value_layer.Not (by_val f a))
unfolding shape-the_row-Val-0 hidden-the_row-Val-0 hidden
not_here f a = refl

pub not_is : {A : Type 0} (f : Val-F A → A) (v a x : Val) → v ≡ Not a → x ≡ a → by_val f v ≡ f (value_layer.Not (by_val f x))
not_is f v a x is p = ap (by_val f) is ∙ not_here f a ∙ ap (λ z. f (value_layer.Not (by_val f z))) (sym p)

bin_here : {A : Type 0} (f : Val-F A → A) (op : Op) (a b : Val) → by_val f (Bin op a b) ≡ f (value_layer.Bin op (by_val f a) (by_val f b))
unfolding shape-the_row-Val-0 hidden-the_row-Val-0 hidden
bin_here f op a b = refl

pub bin_is : {A : Type 0} (f : Val-F A → A) (v : Val) (op : Op) (a b x y : Val) → v ≡ Bin op a b → x ≡ a → y ≡ b → by_val f v ≡ f (value_layer.Bin op (by_val f x) (by_val f y))
bin_is f v op a b x y is p q = ap (by_val f) is ∙ bin_here f op a b ∙ ap (λ z. f (value_layer.Bin op (by_val f z) (by_val f b))) (sym p) ∙ ap (λ z. f (value_layer.Bin op (by_val f x) (by_val f z))) (sym q)

shift_here : {A : Type 0} (f : Val-F A → A) (left : Bool) (a : Val) (by : ℕ) → by_val f (Shift left a by) ≡ f (value_layer.Shift left (by_val f a) by)
unfolding shape-the_row-Val-0 hidden-the_row-Val-0 hidden
shift_here f left a by = refl

pub shift_is : {A : Type 0} (f : Val-F A → A) (v : Val) (left : Bool) (a x : Val) (by : ℕ) → v ≡ Shift left a by → x ≡ a → by_val f v ≡ f (value_layer.Shift left (by_val f x) by)
shift_is f v left a x by is p = ap (by_val f) is ∙ shift_here f left a by ∙ ap (λ z. f (value_layer.Shift left (by_val f z) by)) (sym p)

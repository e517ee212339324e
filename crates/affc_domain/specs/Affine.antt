-- Index expressions as affine forms, over the names in sight and then columns that they don't see.
use Rattle.std.specs.Prelude.{ℕ, ◌+◌, ℤ, pos, negsuc, Bool, true, false, not, ◌&&◌, ◌||◌, if◌then◌else◌, nat_le, nat_lt, nat_abs, List, [], ◌∷◌, ◌++◌, replicate}
use Rattle.affc_rows.specs.Forms.{Affine, mixed_form}
use Rattle.affc_ast.specs.declared.tree.Ix.{Ix}
use Rattle.affc_ast.specs.declared.tree.Ix.TheOpen.{Ix-F, Lit, Name, Neg, Add, Sub, Mul, Min, Max, Floord, Ceild, Mod}
use Rattle.affc_ast.specs.Recursion.{by_ix}
pub use Rattle.affc_rows.specs.Vocabulary.{unit_of}

-- coefficients up to 2^16 in magnitude
abbrev pub are_small : List ℤ → Bool
are_small [] = true
are_small (c ∷ cs) = nat_le (nat_abs c) 65536 && are_small cs

-- and the constant up to 2^24
abbrev pub is_small : Affine → Bool
is_small f = nat_le (nat_abs f.constant) 16777216 && are_small f.coefs

-- an expression: whether it is affine (it has no call, and one side of each product holds no name), whether it holds
-- names, whether the form of each part of it is small, and its form
pub record Linear : Type 0 where
  pub affine : Bool
  pub named : Bool
  pub small : Bool
  pub form : Affine

abbrev pub negative : Linear → Linear
negative a = record { affine = a.affine; named = a.named; small = a.small; form = mixed_form (negsuc 0) a.form (pos 0) a.form }

abbrev pub mixture : ℤ → Linear → ℤ → Linear → Linear
mixture s a t b = record { affine = a.affine && b.affine; named = a.named || b.named; small = a.small && b.small && is_small (mixed_form s a.form t b.form); form = mixed_form s a.form t b.form }

abbrev pub product_form : Bool → Affine → Affine → Affine
product_form named a b = if named then mixed_form b.constant a (pos 0) b else mixed_form (pos 0) a a.constant b

abbrev pub multiple : Linear → Linear → Linear
multiple a b = record {
  affine = a.affine && b.affine && not (a.named && b.named);
  named = a.named || b.named;
  small = a.small && b.small && is_small (product_form a.named a.form b.form);
  form = product_form a.named a.form b.form;
}

abbrev pub no_form : Linear → Linear
no_form a = record a { affine = false }

abbrev pub linear_step : (names more : ℕ) → Ix-F Linear → Linear
linear_step names more (Lit n) = record { affine = true; named = false; small = nat_le (nat_abs n) 16777216; form = record { coefs = replicate (names + more) (pos 0); constant = n } }
linear_step names more (Name x) = record { affine = true; named = true; small = true; form = record { coefs = unit_of names x.0 ++ replicate more (pos 0); constant = pos 0 } }
linear_step names more (Neg a) = negative a
linear_step names more (Add a b) = mixture (pos 1) a (pos 1) b
linear_step names more (Sub a b) = mixture (pos 1) a (negsuc 0) b
linear_step names more (Mul a b) = multiple a b
linear_step names more (Min a b) = no_form a
linear_step names more (Max a b) = no_form a
linear_step names more (Floord a n) = no_form a
linear_step names more (Ceild a n) = no_form a
linear_step names more (Mod a b) = no_form a

-- an expression over so many names in sight, and then so many columns more
abbrev pub linear : (names more : ℕ) → Ix → Linear
linear names more = by_ix (linear_step names more)

abbrev pub form_of : (names more : ℕ) → Ix → Affine
form_of names more e = (linear names more e).form

abbrev pub is_affine : Ix → Bool
is_affine e = (linear 0 0 e).affine

-- ---- Names in sight

abbrev pub sees_step : (names : ℕ) → Ix-F Bool → Bool
sees_step names (Lit n) = true
sees_step names (Name x) = nat_lt x.0 names
sees_step names (Neg a) = a
sees_step names (Add a b) = a && b
sees_step names (Sub a b) = a && b
sees_step names (Mul a b) = a && b
sees_step names (Min a b) = a && b
sees_step names (Max a b) = a && b
sees_step names (Floord a n) = a
sees_step names (Ceild a n) = a
sees_step names (Mod a b) = a && b

-- whether an expression holds only the first so many names
abbrev pub sees : (names : ℕ) → Ix → Bool
sees names = by_ix (sees_step names)

-- What an item in code says, and the items of questions.
use Rattle.std.specs.Prelude.{ℤ, List, [], ◌∷◌, map}
use Rattle.affc_nest.specs.Nests.{nowhere}
use Rattle.affc_nest.specs.Questions.{whole_context}
use Rattle.affc_nest.specs.declared.nest.Nest.{Nest}
use Rattle.affc_sched.specs.Questions as sched
use Rattle.affc_flow.specs.Questions as flow
use Rattle.affc_products.specs.Blocks.{block_questions}
use Rattle.affc_check.specs.list.Items as said
use Rattle.affc_check.specs.declared.list.item.Item.{Item}
use Rattle.affc_check.specs.declared.list.item.Item.TheVariants.{Question, Shown}
use Rattle.affc_check.specs.declared.list.item.Listed.{Listed}
use Rattle.affc_check.specs.declared.list.item.Listed.TheVariants.{One, Questions}
use Rattle.affc_check.specs.declared.list.item.Point.{Point}

abbrev pub point_item : Point → said.Item
point_item x = said.Shown x.system x.point

abbrev pub item_said : Item → said.Item
item_said (Question system) = said.Question system
item_said (Shown x) = point_item x

abbrev pub listed_said : Listed → List said.Item
listed_said (One item) = item_said item ∷ []
listed_said (Questions block) = map said.Question (block_questions block)

-- nothing is shown
abbrev pub no_item : said.Item
no_item = said.Shown (nowhere 0) []

-- that p is in the context
abbrev pub context_item : Nest → (p : List ℤ) → said.Item
context_item nest p = said.Shown (whole_context nest) p

-- the item of a question on a tree, and of one on a schedule
abbrev pub flow_item : flow.Question → said.Item
flow_item q = said.Question q.system

abbrev pub legality_item : sched.Question → said.Item
legality_item q = said.Question q.system

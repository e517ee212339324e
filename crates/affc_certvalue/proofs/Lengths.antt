-- How long a list of values is.
use Rattle.serde_json.proofs.Views.{items_len-items_view, members_len-members_view}

pub ruleset length_steps = (items_len-items_view, members_len-members_view)

-- Where a reader of the form stands.
use Rattle.std.specs.Prelude.{ℕ}
use Rattle.verdict.specs.Forms as forms
use Rattle.verdict.specs.Forms.{Form, DualsLeft}
use Rattle.certform.specs.declared.place.Left.{Left}
use Rattle.certform.specs.declared.place.Place.{Place}
use Rattle.certform.specs.declared.place.Place.TheVariants as places

-- the number of cities that the form goes by, and which line must come
pub record Standing : Type 0 where
  pub n : ℕ
  pub form : Form

abbrev pub left_of : Left → DualsLeft
left_of l = record { a = l.cities; b = l.cuts; c = l.conds; city = l.city; cut = l.cut; depth = l.depth }

-- which line must come at a place of the code
abbrev pub form_of : Place → Form
form_of places.Title = forms.at_title
form_of (places.Size version) = forms.at_size version
form_of (places.Length version) = forms.at_length version
form_of places.Bound = forms.at_bound
form_of places.Tour = forms.at_tour
form_of places.Count = forms.at_count
form_of (places.Cut more listed) = forms.at_cut more listed
form_of (places.Handle more listed teeth) = forms.at_handle more listed teeth
form_of (places.Tooth more listed teeth) = forms.at_tooth more listed teeth
form_of (places.OddHandle more listed pairs) = forms.at_odd_handle more listed pairs
form_of (places.Pair more listed pairs last) = forms.at_pair more listed pairs last
form_of (places.Trees trees listed) = forms.at_trees trees listed
form_of (places.Duals trees listed left) = forms.at_duals trees listed (left_of left)

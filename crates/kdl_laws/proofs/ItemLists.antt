-- The lists of items, with all that they are of named.
use Rattle.kdl_laws.proofs.Common.{◌≡◌, Bool, true, List, [], ◌∷◌, ◌++◌, map, list_all, Text, is_space, Document, Node, Item, GapItems, PlaceItems, DocumentItems, NodeItems}
use Rattle.kdl_layout.specs.Items.{Place}
use Rattle.kdl_layout.specs.Written.{lines, on_line, tail}
use Rattle.kdl_layout.proofs.Listing.ItemsUnique.{gap_items_det, place_items_det}
use Rattle.kdl_layout.proofs.Rewriting.PlacesAgain.{tail_spaced}
use Rattle.kdl_layout.proofs.Rewriting.LinesAgain.{lines_spaces}
use Rattle.kdl_layout.proofs.Keeping.ListUnique.{document_items_det, node_items_det}

pub one_list : (s : Text) (is js : List Item) → GapItems s is → GapItems s js → is ≡ js
one_list s is js a b = gap_items_det a b

pub one_list_in_place : (p : Place) (s : Text) (is js : List Item) → PlaceItems p s is → PlaceItems p s js → is ≡ js
one_list_in_place p s is js a b = place_items_det a b

pub one_list_of_node : (inner : Bool) (n : Node) (is js : List Item) → NodeItems inner n is → NodeItems inner n js → is ≡ js
one_list_of_node inner n is js a b = node_items_det a b

pub one_list_of_document : (inner : Bool) (d : Document) (is js : List Item) → DocumentItems inner d is → DocumentItems inner d js → is ≡ js
one_list_of_document inner d is js a b = document_items_det a b

pub lines_hold_items : (before after s : Text) (is : List Item) → list_all is_space before ≡ true → list_all is_space after ≡ true → GapItems s is → GapItems (lines before is ++ after) (map on_line is)
lines_hold_items before after s is a b d = lines_spaces before after a b d

pub tail_holds_items : (p : Place) (s : Text) (is : List Item) → PlaceItems p s is → PlaceItems p (tail is ++ (32 ∷ [])) is
tail_holds_items p s is d = tail_spaced d

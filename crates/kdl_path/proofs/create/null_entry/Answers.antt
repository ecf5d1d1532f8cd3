use Rattle.std.proofs.Common.{◌≡◌, ◌∙◌, None, Some, ap, refl, subst, sym}
use Rattle.std.specs.Str.{chars}
use Rattle.kdl_value.specs.Data.{null}
use Rattle.kdl_value.specs.Tree.{text_of}
use Rattle.kdl_entry.specs.Tree.{Identifier, identifier_tree, plain_entry, plain_identifier}
use Rattle.kdl_path.specs.Internal.Made.{IsNullEntry}
use Rattle.kdl_path.specs.declared.path.Target.{Target}
use Rattle.kdl_path.specs.declared.path.Target.TheVariants.{Node, Argument, Property}
use Rattle.kdl_path.proofs.Made.{null_entry_is}
use Rattle.kdl_path.proofs.create.null_entry.Goals as goal

pub returns-in_ok-name-in-Property : goal.returns-in_ok-name-in-Property
returns-in_ok-name-in-Property c =
    let s = c.in-Property.name in
    let i : identifier_tree c.in_ok-name-in-Property.name ≡ plain_identifier (text_of s) = c.in_ok-name-in-Property.ensures ∙ ap (λ t. plain_identifier (chars t)) c.deref.ensures in
    subst (λ (t : Target). IsNullEntry t c.new_prop.result) (sym c.in-Property.is)
    (null_entry_is (Property s) c.new_prop.result (plain_entry (Some (plain_identifier (text_of s))) null) (c.new_prop.ensures.tree ∙ ap (λ (j : Identifier). plain_entry (Some j) null) i) refl c.new_prop.ensures.well_formed (λ v. refl))

pub returns-in-Node : goal.returns-in-Node
returns-in-Node c =
    subst (λ (t : Target). IsNullEntry t c.new.result) (sym c.in-Node.is) (null_entry_is Node c.new.result (plain_entry None null) c.new.ensures.tree refl c.new.ensures.well_formed (λ v. refl))

pub returns-in-Argument : goal.returns-in-Argument
returns-in-Argument c =
    let e = c.new-in-Argument in
    subst (λ (t : Target). IsNullEntry t e.result) (sym c.in-Argument.is) (null_entry_is (Argument c.in-Argument.field-0) e.result (plain_entry None null) e.ensures.tree refl e.ensures.well_formed (λ v. refl))

-- When an ACL holds: HAProxy Configuration Manual 2.8, section 7.1 ("ACL basics") and 7.1.6 (addresses).
use Rattle.std.specs.Prelude.{ℕ, Bool, ◌&&◌, List, [], ◌∷◌}
use Rattle.std.specs.List.{list_any}
use Rattle.lb_acl.specs.declared.acl.Sample.{Sample}
use Rattle.lb_acl.specs.declared.acl.Sample.TheVariants as Of
use Rattle.lb_acl.specs.declared.acl.AclLine.{AclLine}
use Rattle.lb_acl.specs.declared.acl.AclLine.TheVariants as Line
use Rattle.lb_acl.specs.FieldView.{FieldView}
use Rattle.lb_acl.specs.HeadView.{HeadView}
use Rattle.lb_acl.specs.NetworkView.{NetworkView}
use Rattle.lb_acl.specs.TextTestView.{TextTestView}
use Rattle.lb_acl.specs.Fields.{is_named, trimmed_parts, values_of}
use Rattle.lb_acl.specs.Matches.{matches}
use Rattle.lb_acl.specs.Networks.{is_in}
use Rattle.lb_acl.specs.Paths.{path_of}

-- the client's address is in one of the networks
abbrev pub has_source : List NetworkView → HeadView → Bool
has_source networks head = list_any (λ network. is_in network head.source) networks

-- the texts of the head that a sample stands for
abbrev pub samples : Sample → HeadView → List (List ℕ)
samples Of.Method head = head.method ∷ []
samples Of.Path head = path_of head.target ∷ []
samples (Of.Field name) head = values_of name head.fields

-- the text matches one of the values
abbrev pub value_passes : TextTestView → List ℕ → Bool
value_passes test sample = list_any (matches test.matching test.ignores_case sample) test.values

-- the field has the name, and one of its elements matches one of the values
abbrev pub field_passes : TextTestView → List ℕ → FieldView → Bool
field_passes test name field = is_named name field && list_any (value_passes test) (trimmed_parts 44 field.value)

-- one of the sample's texts matches one of the values
abbrev pub text_holds : TextTestView → HeadView → Bool
text_holds test head = list_any (value_passes test) (samples test.sample head)

-- the line's test holds
abbrev pub line_holds : AclLine → HeadView → Bool
line_holds (Line.Source networks) head = has_source networks head
line_holds (Line.Text test) head = text_holds test head

-- one of the lines holds
abbrev pub acl_holds : List AclLine → HeadView → Bool
acl_holds lines head = list_any (λ line. line_holds line head) lines

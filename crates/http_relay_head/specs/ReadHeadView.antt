-- A head that was read, as contracts see it.
use Rattle.std.specs.Prelude.{ℕ, List}
use Rattle.lb_acl.specs.HeadView.{HeadView}
use Rattle.http_relay_forward.specs.declared.framing.BodyKind.{BodyKind}

-- the head, how the end of its body is told, and the bytes that were read behind it
pub record ReadHeadView : Type 0 where
  pub head : HeadView
  pub kind : BodyKind
  pub rest : List ℕ

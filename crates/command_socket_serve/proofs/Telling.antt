-- Records that grow.
use Rattle.std.proofs.Common.{Option, Some, None, List, [], ◌++◌, sym, ap, ◌∙◌, append_assoc, append-nil}
use Rattle.lb_desk_ports.specs.Calls.{Grows}

-- nothing is told
pub grows_none : {A : Type 0} (known : Option (List A)) → Grows known known []
grows_none None = tt
grows_none (Some xs) = sym (append-nil xs)

-- one telling behind another
pub grows_more : {A : Type 0} (a b c : Option (List A)) (xs ys : List A) → Grows a b xs → Grows b c ys → Grows a c (xs ++ ys)
grows_more a b None xs ys first second = tt
grows_more a None (Some new) xs ys first second = absurd second
grows_more None (Some mid) (Some new) xs ys first second = absurd first
grows_more (Some old) (Some mid) (Some new) xs ys first second = second ∙ ap (λ zs. zs ++ ys) first ∙ append_assoc old xs ys

use Rattle.std.proofs.Common.{◌≡◌, ◌∙◌, ◌<◌, ℕ, ◌+◌, Some, length, map, slice_get, refl, sym, ap, subst, arith}
use Rattle.std.proofs.lemmas.List.{length_push}
use Rattle.std.proofs.lemmas.Option.{same_Some, slice_get_read}
use Rattle.command_socket_serve.specs.Consoles.{IsNameOf}
use Rattle.lb_answers.specs.declared.named_backend.NamedBackend.{NamedBackend}
use Rattle.lb_config.specs.ConfigViews.{BackendView}
use Rattle.lb_desk_backend.specs.Configured.{IsBackendOf}
use Rattle.lb_desk_backend.proofs.Placed.{pushed}
use Rattle.lb_desk_model.specs.declared.backend.BackendServer.{BackendServer}
use Rattle.lb_desk_model.specs.Backends.{BackendParts}
use Rattle.lb_run_operators.proofs.Naming.{same_names}
use Rattle.lb_run_operators.proofs.commands.names_of.Goals as goal

pub loop-place-preserved : goal.loop-place-preserved
loop-place-preserved c =
    let configs = c.args.configs.now in
    let backends = c.args.backends.now in
    let all = c.loop-place.names.items in
    let place = c.loop-place.place in
    let config = c.index-configs-place.result in
    let backend = c.index-backends-place.result in
    let next = c.named_backend-named.result in
    let among : place < length backends = omega (arith, c.loop-place-test.true, c.requires.count) in
    let here : slice_get configs place ≡ Some config =
    slice_get_read configs (length configs) place config refl c.loop-place-test.true c.index-configs-place.is in
    let there : slice_get backends place ≡ Some backend =
    slice_get_read backends (length backends) place backend refl among c.index-backends-place.is in
    let is : IsBackendOf config backend = c.requires.each place backend there config here in
    let named : IsNameOf config next = record {
      name = c.named_backend-named.ensures.name;
      table = c.named_backend-named.ensures.table;
      servers = ap (map (λ (s : BackendServer). s.name)) (c.named_backend-named.ensures.servers ∙ c.servers.ensures.exact) ∙ same_names config backend is;
    } in
    record {
      within = omega (arith, c.loop-place-test.true);
      count = ap (λ l. length l) c.in-Ok.ensures.items ∙ length_push all next ∙ ap (λ (n : ℕ). n + 1) c.loop-place.invariant.count;
      each = λ p name at.
          pushed (λ (q : ℕ) (n : NamedBackend). (other : BackendView) → slice_get configs q ≡ Some other → IsNameOf other n) all next
          c.loop-place.invariant.each
          (λ other found.
          let same = same_Some config other (sym here ∙ ap (λ (n : ℕ). slice_get configs n) (sym c.loop-place.invariant.count) ∙ found) in
          subst (λ (b : BackendView). IsNameOf b next) same named)
          p name (ap (λ l. slice_get l p) (sym c.in-Ok.ensures.items) ∙ at);
    }

use Rattle.std.proofs.Common.{ap, map, subst, ◌∙◌}
use Rattle.lb_config_arguments.specs.Ranges.{IsFromTo}
use Rattle.lb_config_lines.specs.declared.common_line.TheConstants.{MAX_JOURNAL}
use Rattle.lb_config_rules.specs.Rules.{back_rules}
use Rattle.lb_config_values.specs.ServerView.{ServerView}
use Rattle.lb_config.specs.BasisView.{BasisView}
use Rattle.lb_config.specs.Configs.{servers_of, values_of}
use Rattle.lb_config.proofs.Backends.{backend_is}
use Rattle.lb_config.proofs.InRange.{backend_ok, frontend_ok}
use Rattle.lb_config.proofs.proxy.read_proxy.Goals as goal

pub invariant_of-frontend : goal.invariant_of-frontend
invariant_of-frontend c =
    let values = c.values_of-values.ensures ∙ ap (λ own. values_of c.args.defaults.now own) c.deref.ensures.value in
    let is = frontend_ok c.args.basis.now c.args.defaults.now c.args.own c.args.name c.args.settings.items c.requires.settings c.requires.defaults in
    record { client_time = rw values is.client_time; binds = rw c.in_ok-front.ensures.front is.binds }

pub invariant_of-backend : goal.invariant_of-backend
invariant_of-backend c =
    let values = c.values_of-values.ensures ∙ ap (λ own. values_of c.args.defaults.now own) c.deref.ensures.value in
    let servers = c.in_ok-servers.ensures.exact ∙ ap (λ own. servers_of c.args.defaults.now own) c.deref-2.ensures.value in
    let journal = subst (λ (basis : BasisView). IsFromTo 1 MAX_JOURNAL basis.journal) c.basis.view_is c.basis.invariant in
    let is = backend_ok c.args.basis.now c.args.defaults.now c.args.name c.args.settings.items journal c.requires.settings c.requires.defaults in
    record {
      servers = c.in_ok-servers.ensures.lawful;
      ranges = record {
        timeouts = rw values is.timeouts;
        journal = c.basis.invariant;
        servers = rw servers is.servers;
        table = rw c.in_ok-front.ensures.back is.table;
      };
    }

pub returns-clause-back : goal.returns-clause-back
returns-clause-back c =
    let settings = c.args.settings.items in
    let values = c.values_of-values.ensures ∙ ap (λ own. values_of c.args.defaults.now own) c.deref.ensures.value in
    let servers = c.in_ok-servers.ensures.exact ∙ ap (λ own. servers_of c.args.defaults.now own) c.deref-2.ensures.value in
    let names = c.in_ok-names.ensures ∙ ap (λ own. map (λ (server : ServerView). server.name) own) c.deref-3.ensures.value in
    let rules = c.in_ok-front.ensures.back ∙ ap (λ names. back_rules names settings) c.deref-5.ensures.value in
    let journal = ap (λ (basis : BasisView). basis.journal) c.basis.view_is in
    backend_is c.args.basis.now c.args.defaults.now c.args.name settings c.values_of-values.result c.picking.result c.basis.inside.journal c.in_ok-servers.servers.items c.in_ok-names.names.items c.in_ok-front.back values c.picking.ensures journal servers names rules

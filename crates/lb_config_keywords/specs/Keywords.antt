-- First words of lines: HAProxy Configuration Manual 2.8, sections 3 and 4.1 (the matrix of proxy keywords). `pin-cost`,
-- `tune.relays`, `tune.tries` and `tune.journal` are this project's own.
use Rattle.std.specs.Prelude.{ℕ, Bool, true, ◌||◌, nat_eq, List, [], ◌∷◌, Option, Some, None, codes, bytes_eq, if◌then◌else◌}
use Rattle.std.specs.List.{starts_with}
use Rattle.lb_config_keywords.specs.declared.keyword.ProxyKeyword.{ProxyKeyword}
use Rattle.lb_config_keywords.specs.declared.keyword.ProxyKeyword.TheVariants as Proxy
use Rattle.lb_config_keywords.specs.declared.keyword.ServerKeyword.{ServerKeyword}
use Rattle.lb_config_keywords.specs.declared.keyword.ServerKeyword.TheVariants as Server
use Rattle.lb_config_keywords.specs.declared.keyword.CommonKeyword.{CommonKeyword}
use Rattle.lb_config_keywords.specs.declared.keyword.CommonKeyword.TheVariants as Common
use Rattle.lb_config_keywords.specs.declared.section.Section.{Section}
use Rattle.lb_config_keywords.specs.Sections.{is_one_of, is_proxy, is_front, is_back, is_defaults, is_global}

-- a keyword of a proxy's requests
unfoldable pub proxy_keyword : List ℕ → Option ProxyKeyword
proxy_keyword word =
    if bytes_eq word (codes "mode") then Some Proxy.Mode
    else (if bytes_eq word (codes "balance") then Some Proxy.Balance
    else (if bytes_eq word (codes "bind") then Some Proxy.Bind
    else (if bytes_eq word (codes "acl") then Some Proxy.Acl
    else (if bytes_eq word (codes "use_backend") then Some Proxy.UseBackend
    else (if bytes_eq word (codes "default_backend") then Some Proxy.DefaultBackend else None)))))

-- the sections that have it
abbrev pub proxy_stands_in : ProxyKeyword → Section → Bool
proxy_stands_in Proxy.Mode section = is_proxy section
proxy_stands_in Proxy.Balance section = is_back section || is_defaults section
proxy_stands_in Proxy.Bind section = is_front section
proxy_stands_in Proxy.Acl section = is_front section || is_back section
proxy_stands_in Proxy.UseBackend section = is_front section
proxy_stands_in Proxy.DefaultBackend section = is_front section || is_defaults section

-- a keyword of a proxy's servers and pins
unfoldable pub server_keyword : List ℕ → Option ServerKeyword
server_keyword word =
    if bytes_eq word (codes "server") then Some Server.Server
    else (if bytes_eq word (codes "default-server") then Some Server.DefaultServer
    else (if bytes_eq word (codes "stick-table") then Some Server.StickTable
    else (if bytes_eq word (codes "stick") then Some Server.Stick
    else (if bytes_eq word (codes "use-server") then Some Server.UseServer
    else (if bytes_eq word (codes "pin-cost") then Some Server.PinCost else None)))))

-- the sections that have it
abbrev pub server_stands_in : ServerKeyword → Section → Bool
server_stands_in Server.DefaultServer section = is_back section || is_defaults section
server_stands_in _ section = is_back section

-- a keyword of several kinds of lines, or of the whole program
unfoldable pub common_keyword : List ℕ → Option CommonKeyword
common_keyword word =
    if bytes_eq word (codes "timeout") then Some Common.Timeout
    else (if bytes_eq word (codes "option") then Some Common.Option
    else (if bytes_eq word (codes "stats") then Some Common.Stats
    else (if bytes_eq word (codes "tune.relays") then Some Common.Relays
    else (if bytes_eq word (codes "tune.tries") then Some Common.Tries
    else (if bytes_eq word (codes "tune.journal") then Some Common.Journal else None)))))

-- the sections that have it; what stands behind `timeout`, `option` and `stats` is asked for itself
abbrev pub common_stands_in : CommonKeyword → Section → Bool
common_stands_in Common.Timeout section = true
common_stands_in Common.Option section = true
common_stands_in Common.Stats section = true
common_stands_in _ section = is_global section

-- words whose lines are ignored: what a process does and logs
abbrev pub ignored_process_words : List (List ℕ)
ignored_process_words =
    codes "chroot" ∷ codes "user" ∷ codes "group" ∷ codes "daemon" ∷ codes "nbthread" ∷ codes "pidfile" ∷ codes "ca-base"
    ∷ codes "crt-base" ∷ codes "uid" ∷ []

-- and more of them
abbrev pub ignored_other_words : List (List ℕ)
ignored_other_words =
    codes "gid" ∷ codes "log" ∷ codes "log-tag" ∷ codes "log-format" ∷ codes "maxconn" ∷ codes "retries" ∷ codes "errorfile" ∷ []

-- words that begin so are ignored too, but for the keywords
abbrev pub begins_ignored : List ℕ → Bool
begins_ignored word = starts_with nat_eq word (codes "ssl-default-") || starts_with nat_eq word (codes "tune.")

-- a line that begins so is ignored, if the word is no keyword
unfoldable pub is_ignored : List ℕ → Bool
is_ignored word = is_one_of ignored_process_words word || is_one_of ignored_other_words word || begins_ignored word

-- words that are left out: rules on messages
abbrev pub left_out_rules : List (List ℕ)
left_out_rules =
    codes "http-request" ∷ codes "http-response" ∷ codes "http-check" ∷ codes "tcp-request" ∷ codes "tcp-response" ∷ codes "redirect"
    ∷ []

-- and others
abbrev pub left_out_others : List (List ℕ)
left_out_others =
    codes "cookie" ∷ codes "force-persist" ∷ codes "ignore-persist" ∷ codes "server-template" ∷ codes "lua-load" ∷ codes "no" ∷ []

unfoldable pub is_left_out : List ℕ → Bool
is_left_out word = is_one_of left_out_rules word || is_one_of left_out_others word

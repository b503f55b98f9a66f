-- What a browser asks for at the web's port of a centre.
use Rattle.std.specs.Prelude.{ℕ, Bool, true, cond, not, ◌&&◌, List, codes, bytes_eq, map, string_bytes, Option, None, Some, Result, take, ◌≡◌}
use Rattle.std.specs.List.{list_any}
use Rattle.std.specs.Result.{result_ok}
use Rattle.httparse.specs.declared.spans.HeaderSpan.{HeaderSpan}
use Rattle.httparse.specs.declared.spans.RequestSpans.{RequestSpans}
use Rattle.httparse.specs.Spans.{span_bytes}
use Rattle.websocket.specs.declared.handshake.failure.HandshakeError.{HandshakeError}
use Rattle.websocket.specs.Handshake.{Answers, requested_key}
use Rattle.websocket.specs.Headers.{Fields, fields_of, header_value}
use Rattle.pv_web.specs.declared.asking.Asked.{Asked}
use Rattle.pv_web.specs.declared.asking.Asked.TheVariants as Asked
use Rattle.pv_web.specs.declared.names.Names.{Names}

-- the text is one of these names
abbrev pub is_among : List (List ℕ) → List ℕ → Bool
is_among names text = list_any (λ name. bytes_eq name text) names

-- one of our own hosts is named
abbrev pub is_own_host : Names → Option (List ℕ) → Bool
is_own_host names None = not true
is_own_host names (Some host) = is_among (map string_bytes names.hosts.items) host

-- if a page is named that asks, it is one of our own
abbrev pub is_own_origin : Names → Option (List ℕ) → Bool
is_own_origin names None = true
is_own_origin names (Some origin) = is_among (map string_bytes names.origins.items) origin

-- a call needs the key of a websocket
abbrev pub call_with : Option (List ℕ) → Asked
call_with None = Asked.NoCall
call_with (Some key) = Asked.Call key

-- what is asked for by a request with this method, target, host, origin and key
abbrev pub asked_at : Names → List ℕ → List ℕ → Option (List ℕ) → Option (List ℕ) → Option (List ℕ) → Asked
asked_at names method target host origin key =
    cond (not (is_own_host names host && is_own_origin names origin)) Asked.Foreign
    (cond (not (bytes_eq method (codes "GET"))) Asked.Missing
    (cond (bytes_eq target (codes "/call")) (call_with key)
    (cond (bytes_eq target (codes "/")) Asked.Page Asked.Missing)))

-- the fields of a head that these spans cover
abbrev pub fields_in : List ℕ → RequestSpans → List HeaderSpan → Fields
fields_in input head spans = fields_of input (take head.headers spans)

-- this is what the head asks for that these spans cover, and a call has the key that answers it
pub record HeadAsks (names : Names) (input : List ℕ) (head : RequestSpans) (spans : List HeaderSpan) (asked : Asked) : Type 0 where
  -- what the check of its websocket says
  pub checked : Result (List ℕ) HandshakeError
  pub answers : Answers checked (requested_key (span_bytes input head.method) head.version (fields_in input head spans))
  pub same : asked ≡ asked_at names (span_bytes input head.method) (span_bytes input head.path)
      (header_value (fields_in input head spans) (codes "Host"))
      (header_value (fields_in input head spans) (codes "Origin"))
      (result_ok checked)

-- Each check refuses with its status; past all of them the stream is set.
use mathlib.Core.Path.{◌∙◌}
use Prim.Native.Nat.{ℕ}
use lib.ListN.{get_or}
use Rattle.card.specs.Card.{no_stream}
use Rattle.card.specs.declared.Parts.{Parts}
use Rattle.description.specs.declared.StreamInfo.{StreamInfo}
use Rattle.rules.specs.Control.{buffer_offered, features_offered, channels_offered, format_offered, rate_offered, framed}
use Rattle.rules.proofs.Parts.{stream_at_lem}
use Rattle.reply.proofs.Laws.{serves-same, serves-stream}
use Rattle.requests.proofs.Laws.{check-passed, check-failed}
use Rattle.commands.proofs.set_offered.Goals as goal

-- what the stream that the request names offers
abbrev offered : Parts → ℕ → StreamInfo
offered p i = (get_or p.streams i no_stream).info

pub returns-in_default : goal.returns-in_default
returns-in_default c =
    let a = c.args in
    rw (
      stream_at_lem a.parts a.i c.requires.1,
      check-failed (buffer_offered a.params) c.in_default.ensures,
    )
    (serves-same _ a.pending a.parts _ _ _ _ c.requires.0 c.answer.ensures)

pub returns-in_default-are_features_offered : goal.returns-in_default-are_features_offered
returns-in_default-are_features_offered c =
    let a = c.args in
    rw (
      stream_at_lem a.parts a.i c.requires.1,
      check-passed (buffer_offered a.params) c.in-Some.ensures,
      check-failed (features_offered (offered a.parts a.i) a.params) c.in_default-are_features_offered.ensures,
    )
    (serves-same _ a.pending a.parts _ _ _ _ c.requires.0 c.answer-in_default-are_features_offered.ensures)

pub returns-in_default-are_channels_offered : goal.returns-in_default-are_channels_offered
returns-in_default-are_channels_offered c =
    let a = c.args in
    rw (
      stream_at_lem a.parts a.i c.requires.1,
      check-passed (buffer_offered a.params) c.in-Some.ensures,
      check-passed (features_offered (offered a.parts a.i) a.params) c.in-Some-are_features_offered.ensures,
      check-failed (channels_offered (offered a.parts a.i) a.params) c.in_default-are_channels_offered.ensures,
    )
    (serves-same _ a.pending a.parts _ _ _ _ c.requires.0 c.answer-in_default-are_channels_offered.ensures)

pub returns-in_default-is_format_offered : goal.returns-in_default-is_format_offered
returns-in_default-is_format_offered c =
    let a = c.args in
    rw (
      stream_at_lem a.parts a.i c.requires.1,
      check-passed (buffer_offered a.params) c.in-Some.ensures,
      check-passed (features_offered (offered a.parts a.i) a.params) c.in-Some-are_features_offered.ensures,
      check-passed (channels_offered (offered a.parts a.i) a.params) c.in-Some-are_channels_offered.ensures,
      check-failed (format_offered (offered a.parts a.i) a.params) c.in_default-is_format_offered.ensures,
    )
    (serves-same _ a.pending a.parts _ _ _ _ c.requires.0 c.answer-in_default-is_format_offered.ensures)

pub returns-in_default-is_rate_offered : goal.returns-in_default-is_rate_offered
returns-in_default-is_rate_offered c =
    let a = c.args in
    rw (
      stream_at_lem a.parts a.i c.requires.1,
      check-passed (buffer_offered a.params) c.in-Some.ensures,
      check-passed (features_offered (offered a.parts a.i) a.params) c.in-Some-are_features_offered.ensures,
      check-passed (channels_offered (offered a.parts a.i) a.params) c.in-Some-are_channels_offered.ensures,
      check-passed (format_offered (offered a.parts a.i) a.params) c.in-Some-is_format_offered.ensures,
      check-failed (rate_offered (offered a.parts a.i) a.params) c.in_default-is_rate_offered.ensures,
    )
    (serves-same _ a.pending a.parts _ _ _ _ c.requires.0 c.answer-in_default-is_rate_offered.ensures)

pub returns-in_default-is_framed : goal.returns-in_default-is_framed
returns-in_default-is_framed c =
    let a = c.args in
    rw (
      stream_at_lem a.parts a.i c.requires.1,
      check-passed (buffer_offered a.params) c.in-Some.ensures,
      check-passed (features_offered (offered a.parts a.i) a.params) c.in-Some-are_features_offered.ensures,
      check-passed (channels_offered (offered a.parts a.i) a.params) c.in-Some-are_channels_offered.ensures,
      check-passed (format_offered (offered a.parts a.i) a.params) c.in-Some-is_format_offered.ensures,
      check-passed (rate_offered (offered a.parts a.i) a.params) c.in-Some-is_rate_offered.ensures,
      check-failed (framed a.params) c.in_default-is_framed.ensures,
    )
    (serves-same _ a.pending a.parts _ _ _ _ c.requires.0 c.answer-in_default-is_framed.ensures)

pub returns : goal.returns
returns c =
    let a = c.args in
    rw (
      stream_at_lem a.parts a.i c.requires.1,
      check-passed (buffer_offered a.params) c.in-Some.ensures,
      check-passed (features_offered (offered a.parts a.i) a.params) c.in-Some-are_features_offered.ensures,
      check-passed (channels_offered (offered a.parts a.i) a.params) c.in-Some-are_channels_offered.ensures,
      check-passed (format_offered (offered a.parts a.i) a.params) c.in-Some-is_format_offered.ensures,
      check-passed (rate_offered (offered a.parts a.i) a.params) c.in-Some-is_rate_offered.ensures,
      check-passed (framed a.params) c.in-Some-is_framed.ensures,
    )
    (serves-stream _ a.pending a.parts _ _ _ a.i _ _ c.requires.0 c.requires.1 c.requires.2
    (c.answer-2.ensures ∙ rw c.with_stream.ensures))

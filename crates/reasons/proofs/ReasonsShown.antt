-- The cases of sentences, computed on the definitions.
use mathlib.Core.Path.{refl}
use Rattle.phrases.specs.Table.{in_words}
use Rattle.phrases.specs.Phrases.{spelled, phrases, phrase, prefix, leading, same_bytes}
use Rattle.reasons.specs.Reasons.{by_none, by_node, by_choice, may_count, place_fits, at_node, tag_fits, is_reason, digits_of, sentence, numeral, digits_at, guess, understood, reason_length, reason_over, has_meaning, meaning, meaning_length, meaning_over}
use Rattle.reasons.specs.ReasonCases.{counts_below, AllShown, reason_cases}

pub reasons_shown : AllShown reason_cases
unfolding in_words spelled phrases phrase prefix leading same_bytes by_none by_node by_choice may_count place_fits at_node tag_fits is_reason digits_of sentence numeral digits_at guess understood reason_length reason_over has_meaning meaning meaning_length meaning_over counts_below
reasons_shown = ((refl, refl, refl), ((refl, refl, refl), ((refl, refl, refl), ((refl, refl, refl), ((refl, refl, refl), ((refl, refl, refl), ((refl, refl, refl), ((refl, refl, refl), ((refl, refl, refl), ((refl, refl, refl), ((refl, refl, refl), ((refl, refl, refl), ((refl, refl, refl), ((refl, refl, refl), ((refl, refl, refl), ((refl, refl, refl), ((refl, refl, refl), ((refl, refl, refl), ((refl, refl, refl), ((refl, refl, refl), ((refl, refl, refl), (refl, (refl, (refl, (refl, (refl, (refl, (refl, (refl, (refl, (refl, ((refl, refl), ((refl, refl), ((refl, refl), ((refl, refl), ((refl, refl), ((refl, refl), ((refl, refl), ((refl, refl), ((refl, refl), ((refl, refl), ((refl, refl), ((refl, refl), ((refl, refl), ((refl, refl), ((refl, refl), ((refl, refl), ((refl, refl), ((refl, refl), ((refl, refl), ((refl, refl), ((refl, refl), ((refl, refl), (refl, (refl, (refl, (refl, (refl, (refl, (refl, (refl, (refl, (refl, (refl, (refl, (refl, (refl, (refl, (refl, (refl, (refl, (refl, (refl, (refl, (refl, (refl, (refl, (refl, (refl, (refl, (refl, (refl, (refl, ((refl, refl), ((refl, refl), ((refl, refl), ((refl, refl), ((refl, refl), ((refl, refl), ((refl, refl), ((refl, refl), ((refl, refl), ((refl, refl), ((refl, refl), ((refl, refl), ((refl, refl), ((refl, refl), ((refl, refl), ((refl, refl), ((refl, refl), ((refl, refl), ((refl, refl), ((refl, refl), ((refl, refl), ((refl, refl), tt)))))))))))))))))))))))))))))))))))))))))))))))))))))))))))))))))))))))))))))))))))))))))))))))))))))))))

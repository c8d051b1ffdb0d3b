-- What the proofs of several functions use.
mod FindingsLaws
mod SurveyTables
mod SurveyFilling

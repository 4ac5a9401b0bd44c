mod AtRest
mod FirstOther
mod Known
mod Places
mod ReliefSteps
